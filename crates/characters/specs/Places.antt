-- The code's place of a character, from the rules' one.
-- What contracts of private functions cite, and no rule.
-- Assumes nothing.
use Rattle.std.specs.Prelude.{List, Option, None, Some, ℕ}
use Rattle.rules.specs.Text.{Place as Ruled, place, nowhere, moved_up}
use Rattle.characters.specs.declared.Place.{Place}

unfoldable pub place_of : Ruled → Option Place
place_of (place x y up) = Some (record { x = x; y = y; up = up })
place_of nowhere = None

-- the framebuffer as a character at this place finds it
unfoldable pub moved_for : Option Place → List ℕ → List ℕ
moved_for (Some p) g = moved_up p.up g
moved_for None g = g
