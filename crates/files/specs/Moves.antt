-- The moves that a delete is made of.
-- Assumes nothing.
use Rattle.std.specs.Prelude.{List, ℕ, ◌+◌, ◌-◌, drop, replicate}
use Rattle.std.proofs.Math.Seq.{paste}

-- bytes from `next` up to `top` move down to `start`; what lies from the new end on stays
unfoldable pub files_closed : List ℕ → ℕ → ℕ → ℕ → List ℕ
files_closed s start next top = paste s start (drop next s) (top - next)

-- records behind the n bytes at `at`, up to `end`, move up over them
unfoldable pub records_closed : List ℕ → ℕ → ℕ → ℕ → List ℕ
records_closed s at n end = paste s at (drop (at + n) s) (end - (at + n))

-- both, and zeros where the last record's bytes were
unfoldable pub closed : List ℕ → ℕ → ℕ → ℕ → ℕ → ℕ → ℕ → List ℕ
closed s at n end start next top = paste (records_closed (files_closed s start next top) at n end) (end - n) (replicate n 0) n
