-- The answers of a check.
-- Assumes nothing.
use Rattle.std.specs.Prelude.{Bool, true, false, Result, Ok, Err, ◌&&◌, ℕ, leb, ⊤}
use Rattle.refusals.specs.Refusals.{malformed_file, accepted}
use Rattle.fonts.specs.declared.Malformed.{Malformed}

-- a to b, both ends with it
unfoldable pub between : ℕ → ℕ → ℕ → Bool
between a b n = leb a n && leb n b

abbrev pub malformed : Result ⊤ Malformed
malformed = Err (record {})

abbrev pub check_of : Bool → Result ⊤ Malformed
check_of true = Ok tt
check_of false = malformed

-- the refusal's number
abbrev pub check_number : Result ⊤ Malformed → ℕ
check_number (Ok good) = accepted
check_number (Err error) = malformed_file
