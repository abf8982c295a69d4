-- The footprints of rectangles: the rectangle, and the frame's own pixels.
-- Assumes nothing.
use mathlib.Core.Bool.{Bool}
use mathlib.Core.List.{List}
use Prim.Native.Nat.{ℕ}
use Rattle.pixels.specs.Framebuffer.{fill, plain}
use Rattle.pixels.specs.Regions.{rectangle}
use Rattle.pixels.specs.Footprints.{SameOutside}
use Rattle.pixels.proofs.Footprint.{outside_put}
use Rattle.rectangle.specs.Frame.{frame}

pub rectangle_footprint : (x1 y1 x2 y2 : ℕ) (c : Bool) (g : List ℕ) → SameOutside (rectangle x1 y1 x2 y2) g (fill (rectangle x1 y1 x2 y2) c g)
rectangle_footprint x1 y1 x2 y2 c g = outside_put (rectangle x1 y1 x2 y2) (plain c) g

pub frame_footprint : (x1 y1 x2 y2 : ℕ) (c : Bool) (g : List ℕ) → SameOutside (frame x1 y1 x2 y2) g (fill (frame x1 y1 x2 y2) c g)
frame_footprint x1 y1 x2 y2 c g = outside_put (frame x1 y1 x2 y2) (plain c) g
