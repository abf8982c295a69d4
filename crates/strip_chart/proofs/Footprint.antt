-- The footprint of a strip chart: its rectangle.
-- Assumes nothing.
use mathlib.Core.Bool.{Bool}
use mathlib.Core.List.{List}
use Prim.Native.Nat.{ℕ}
use Rattle.pixels.specs.Regions.{rectangle}
use Rattle.pixels.specs.Footprints.{SameOutside}
use Rattle.pixels.proofs.Footprint.{outside_put}
use Rattle.strip_chart.specs.Strips.{shifted, shifted_strip}

pub strip_footprint : (right : Bool) (x1 y1 x2 y2 : ℕ) (g : List ℕ) → SameOutside (rectangle x1 y1 x2 y2) g (shifted_strip right x1 y1 x2 y2 g)
strip_footprint right x1 y1 x2 y2 g = outside_put (rectangle x1 y1 x2 y2) (shifted right x1 x2 g) g
