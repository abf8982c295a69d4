-- The footprints of bitmaps: the box, and the rectangle of data in line at each of its bytes.
-- Assumes nothing.
use mathlib.Core.List.{List}
use Prim.Native.Nat.{ℕ, ◌+◌}
use Rattle.pixels.specs.Regions.{box, rectangle}
use Rattle.pixels.specs.Footprints.{SameOutside}
use Rattle.pixels.proofs.Footprint.{outside_put, outside_in}
use Rattle.bitmap.specs.Bitmaps.{packed, packed_box, inline_pixels, inline_bits, inline_byte}

pub packed_footprint : (x y w h : ℕ) (bits g : List ℕ) → SameOutside (box x (x + w) y (y + h)) g (packed_box x y w h bits g)
packed_footprint x y w h bits g = outside_put (box x (x + w) y (y + h)) (packed x y w bits) g

pub inline_footprint : (x1 y1 x2 y2 k b : ℕ) (g : List ℕ) → SameOutside (rectangle x1 y1 x2 y2) g (inline_byte x1 y1 x2 y2 k b g)
unfolding inline_pixels
inline_footprint x1 y1 x2 y2 k b g = outside_in (rectangle x1 y1 x2 y2) (inline_pixels x1 y1 x2 y2 k) (inline_bits x1 x2 k b) g (λ u v e. rw e)
