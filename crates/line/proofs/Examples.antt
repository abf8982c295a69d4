-- Worked lines.
-- Assumes nothing.
use mathlib.Core.Path.{◌≡◌, refl}
use mathlib.Core.Bool.{true, false}
use mathlib.Core.List.{List, [], ◌∷◌}
use Prim.Native.Nat.{ℕ, zero, suc, ◌+◌, max}
use Rattle.pixels.specs.Regions.{some}
use Rattle.line.specs.Line.{distance, towards, rise, line_x, line_y, line}

pub data Place : Type 0 where
  at : ℕ → ℕ → Place

-- n pixels of the line from number i on
places_from : ℕ → ℕ → ℕ → ℕ → ℕ → ℕ → List Place
places_from x1 y1 x2 y2 i zero = []
places_from x1 y1 x2 y2 i (suc n) = at (line_x x1 y1 x2 y2 i) (line_y x1 y1 x2 y2 i) ∷ places_from x1 y1 x2 y2 (suc i) n

-- the pixels of the line, in order
places : ℕ → ℕ → ℕ → ℕ → List Place
places x1 y1 x2 y2 = places_from x1 y1 x2 y2 0 (max (distance x1 x2) (distance y1 y2) + 1)

right_down : places 0 0 2 1 ≡ at 0 0 ∷ at 1 1 ∷ at 2 1 ∷ []
unfolding places places_from line_x line_y towards rise
right_down = refl

left_up : places 2 1 0 0 ≡ at 2 1 ∷ at 1 0 ∷ at 0 0 ∷ []
unfolding places places_from line_x line_y towards rise
left_up = refl

-- so a line and the line back are not the same pixels
there_has : line 0 0 2 1 1 1 ≡ true
unfolding some line_x line_y towards rise
there_has = refl

back_lacks : line 2 1 0 0 1 1 ≡ false
unfolding some line_x line_y towards rise
back_lacks = refl

steep : places 5 9 4 5 ≡ at 5 9 ∷ at 5 8 ∷ at 4 7 ∷ at 4 6 ∷ at 4 5 ∷ []
unfolding places places_from line_x line_y towards rise
steep = refl

level : places 255 3 252 3 ≡ at 255 3 ∷ at 254 3 ∷ at 253 3 ∷ at 252 3 ∷ []
unfolding places places_from line_x line_y towards rise
level = refl

diagonal : places 253 2 255 0 ≡ at 253 2 ∷ at 254 1 ∷ at 255 0 ∷ []
unfolding places places_from line_x line_y towards rise
diagonal = refl

one : places 7 7 7 7 ≡ at 7 7 ∷ []
unfolding places places_from line_x line_y towards rise
one = refl
