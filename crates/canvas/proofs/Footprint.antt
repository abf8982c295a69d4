-- The footprint of a pixel: itself.
-- Assumes nothing.
use mathlib.Core.Bool.{Bool}
use mathlib.Core.List.{List}
use Prim.Native.Nat.{ℕ}
use Rattle.pixels.specs.Framebuffer.{fill, plain}
use Rattle.pixels.specs.Regions.{point}
use Rattle.pixels.specs.Footprints.{SameOutside}
use Rattle.pixels.proofs.Footprint.{outside_put}

pub pixel_footprint : (x y : ℕ) (c : Bool) (g : List ℕ) → SameOutside (point x y) g (fill (point x y) c g)
pixel_footprint x y c g = outside_put (point x y) (plain c) g
