-- The panel's bytes when another panel is to stand in them: a byte that says the same of both stays as it is, whatever it is.
-- Assumes nothing.
use Rattle.std.specs.Prelude.{Bool, cond, List, [], ◌∷◌, ℕ, eqb}
use Rattle.state.specs.declared.Serial.{Serial}
use Rattle.state.specs.declared.Backlight.{Backlight}
use Rattle.state.specs.declared.Panel.{Panel}
use Rattle.record.specs.Reading.{panel_of}
use Rattle.record.specs.Writing.{panel_bytes}

-- the bytes l, each one that is written as m and is to be written as n changed to that of n where the two differ; behind the end of m or n all stay
unfoldable pub merged : List ℕ → List ℕ → List ℕ → List ℕ
merged [] m n = []
merged (b ∷ l) [] n = b ∷ l
merged (b ∷ l) (c ∷ m) [] = b ∷ l
merged (b ∷ l) (c ∷ m) (d ∷ n) = cond (eqb c d) b d ∷ merged l m n

unfoldable pub revised : List ℕ → Panel → List ℕ
revised l q = merged l (panel_bytes (panel_of l)) (panel_bytes q)

-- ---- the small parts

abbrev pub serial : Bool → ℕ → ℕ → Serial
serial on a b = record { on = on; a = a; b = b }

abbrev pub backlight : Bool → ℕ → Backlight
backlight on m = record { on = on; minutes = m }
