-- A strip chart moves the pixels of its rectangle by one column, left or right; a white column comes in.
-- Assumes nothing.
use Rattle.std.specs.Prelude.{Bool, cond, not, ◌&&◌, List, ℕ, ◌+◌, ◌-◌, eqb}
use Rattle.pixels.specs.Framebuffer.{Picture, black, put}
use Rattle.pixels.specs.Regions.{rectangle}

-- the column that comes in
unfoldable pub entering : Bool → ℕ → ℕ → ℕ
entering right x1 x2 = cond right x1 x2

-- the column whose pixels come to column x
unfoldable pub source : Bool → ℕ → ℕ
source right x = cond right (x - 1) (x + 1)

unfoldable pub shifted : Bool → ℕ → ℕ → List ℕ → Picture
shifted right x1 x2 g x y = not (eqb x (entering right x1 x2)) && black g (source right x) y

abbrev pub shifted_strip : Bool → ℕ → ℕ → ℕ → ℕ → List ℕ → List ℕ
shifted_strip right x1 y1 x2 y2 g = put (rectangle x1 y1 x2 y2) (shifted right x1 x2 g) g
