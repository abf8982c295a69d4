-- The editions of the upload protocol, one of which the board chooses at start: the older has numbers of one byte and sizes of two, the newer numbers of two
-- bytes and sizes of four.
-- Assumes nothing.
use Rattle.std.specs.Prelude.{Bool, ◌||◌, ℕ, eqb}

abbrev pub older : ℕ
older = 1

abbrev pub newer : ℕ
newer = 2

unfoldable pub is_edition : ℕ → Bool
is_edition e = eqb e older || eqb e newer

-- the milliseconds after which an upload is dropped
abbrev pub patience : ℕ
patience = 2100
