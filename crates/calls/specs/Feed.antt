-- What comes in: the bytes of a piece, or time that has passed.
-- Assumes nothing.
use Rattle.std.specs.Prelude.{List, [], ◌∷◌, cond, ℕ, eqb, length, take}
use Rattle.rules.specs.World.{World}
use Rattle.rules.specs.Step.{Input, time}
use Rattle.rules.specs.Calls.{bytes, run, said, taken}
use Rattle.calls.specs.Memory.{Memory, checked, loaded, saved}

pub record Fed : Type 0 where
  pub left : Memory
  pub answer : ℕ
  pub consumed : ℕ
  pub sent : List ℕ

abbrev pub fed : Memory → ℕ → ℕ → List ℕ → Fed
fed m a n l = record { left = m; answer = a; consumed = n; sent = l }

-- n of the inputs are obeyed: 0 where they are all, 5 where one is left and fewer than two reply bytes are free
abbrev pub fed_inputs : World → List Input → ℕ → Fed
fed_inputs w l n = fed (saved (run w (take n l))) (cond (eqb n (length l)) 0 5) n (said w (take n l))

-- INPUTS WITH THIS MUCH REPLY ROOM: refused with 1 to 4 they change nothing, none is consumed and nothing is sent
unfoldable pub feed_of : Memory → List Input → ℕ → Fed
feed_of m l room = cond (eqb (checked m) 0) (fed_inputs (loaded m) l (taken (loaded m) room l)) (fed m (checked m) 0 [])

-- A PIECE OF THE STREAM
abbrev pub piece_of : Memory → List ℕ → ℕ → Fed
piece_of m p room = feed_of m (bytes p) room

-- MILLISECONDS THAT HAVE PASSED
abbrev pub time_of : Memory → ℕ → ℕ → Fed
time_of m ms room = feed_of m (time ms ∷ []) room
