-- A stream: what comes in, in order. Taken whole, and as far as the reply room goes.
-- Assumes nothing.
use Rattle.std.specs.Prelude.{List, [], ◌∷◌, ◌++◌, cond, ℕ, ◌+◌, ◌-◌, ltb, length}
use Rattle.rules.specs.World.{World}
use Rattle.rules.specs.Step.{Input, byte, step, replies}

-- the bytes of a piece
unfoldable pub bytes : List ℕ → List Input
bytes [] = []
bytes (b ∷ l) = byte b ∷ bytes l

-- a whole stream: the world after it, and everything sent
unfoldable pub run : World → List Input → World
run w [] = w
run w (i ∷ l) = run (step w i) l

unfoldable pub said : World → List Input → List ℕ
said w [] = []
said w (i ∷ l) = replies w i ++ said (step w i) l

-- how many inputs are taken, where `room` reply bytes are free: none without two of them before it
unfoldable pub taken : World → ℕ → List Input → ℕ
taken w room [] = 0
taken w room (i ∷ l) = cond (ltb room 2) 0 (1 + taken (step w i) (room - length (replies w i)) l)
