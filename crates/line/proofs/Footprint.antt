-- The line's footprint is the line.
-- Assumes nothing.
use mathlib.Core.Bool.{Bool}
use mathlib.Core.List.{List}
use Prim.Native.Nat.{ℕ}
use Rattle.pixels.specs.Framebuffer.{fill}
use Rattle.pixels.specs.Footprints.{SameOutside}
use Rattle.pixels.proofs.Footprint.{outside_put}
use Rattle.line.specs.Line.{line}

pub line_outside : (x1 y1 x2 y2 : ℕ) (c : Bool) (g : List ℕ) → SameOutside (line x1 y1 x2 y2) g (fill (line x1 y1 x2 y2) c g)
line_outside x1 y1 x2 y2 c g = outside_put (line x1 y1 x2 y2) (λ u v. c) g
