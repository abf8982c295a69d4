-- A stream cut into pieces, each handed in with reply room of its own.
-- Assumes nothing.
use Rattle.std.specs.Prelude.{List, [], ◌∷◌, ◌++◌, ℕ, ◌-◌, ◌<◌, ◌≤◌, length, take}
use Rattle.rules.specs.World.{World}
use Rattle.rules.specs.Step.{Input, step, replies}
use Rattle.rules.specs.Calls.{run, said, taken}

pub record Chunk : Type 0 where
  pub inputs : List Input
  pub room : ℕ

-- what a piece leaves: the world after the inputs taken, and what they sent
abbrev pub fed_inputs : World → Chunk → List Input
fed_inputs w p = take (taken w p.room p.inputs) p.inputs

abbrev pub fed : World → Chunk → World
fed w p = run w (fed_inputs w p)

unfoldable pub fed_all : World → List Chunk → World
fed_all w [] = w
fed_all w (p ∷ ps) = fed_all (fed w p) ps

unfoldable pub said_all : World → List Chunk → List ℕ
said_all w [] = []
said_all w (p ∷ ps) = said w (fed_inputs w p) ++ said_all (fed w p) ps

-- the stream that the pieces were cut from
unfoldable pub joined : List Chunk → List Input
joined [] = []
joined (p ∷ ps) = p.inputs ++ joined ps

-- two reply bytes are free before each input
unfoldable pub Enough : World → ℕ → List Input → Type 0
Enough w room [] = Unit {0}
Enough w room (i ∷ l) = (2 ≤ room) × Enough (step w i) (room - length (replies w i)) l

-- a piece is consumed up to input n: two reply bytes were free before each one of it, and where one is left fewer than two are
pub record GoesTo (w : World) (room : ℕ) (p : List Input) (n : ℕ) : Type 0 where
  pub enough : Enough w room (take n p)
  pub most : n ≤ length p
  pub stops : n < length p → room - length (said w (take n p)) < 2

unfoldable pub EnoughAll : World → List Chunk → Type 0
EnoughAll w [] = Unit {0}
EnoughAll w (p ∷ ps) = Enough w p.room p.inputs × EnoughAll (run w p.inputs) ps
