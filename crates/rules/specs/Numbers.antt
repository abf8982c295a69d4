-- The numbers and sizes of files among a command's arguments, in edition e: numbers of one byte and sizes of two in the older, of two and four in the newer. Low
-- bytes come first.
-- Assumes nothing.
use Rattle.std.specs.Prelude.{List, Bool, cond, ℕ, ◌+◌, ◌*◌, eqb, ltb}
use Rattle.directory.specs.Directory.{max_number}
use Rattle.state.specs.Editions.{newer}
use Rattle.rules.specs.World.{arg}

-- 19
abbrev pub too_high : ℕ → Bool
too_high n = ltb max_number n

abbrev pub number_bytes : ℕ → ℕ
number_bytes e = cond (eqb e newer) 2 1

abbrev pub pair_at : List ℕ → ℕ → ℕ
pair_at a i = arg a i + 256 * arg a (i + 1)

-- the number from argument i on
abbrev pub number_at : ℕ → List ℕ → ℕ → ℕ
number_at e a i = cond (eqb e newer) (pair_at a i) (arg a i)

-- the size behind the number that comes first
abbrev pub size_in : ℕ → List ℕ → ℕ
size_in e a = cond (eqb e newer) (pair_at a 2 + 65536 * pair_at a 4) (pair_at a 1)
