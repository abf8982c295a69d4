-- Colours, and the one rule from a byte to a colour.
-- Assumes nothing.
use Rattle.std.specs.Prelude.{Bool, not, ℕ, eqb}
use Rattle.canvas.specs.declared.Colour.{Colour}

abbrev pub colour : Bool → Colour
colour b = record { black = b }

-- 0 is white, any other byte black
abbrev pub colour_of : ℕ → Colour
colour_of n = colour (not (eqb n 0))
