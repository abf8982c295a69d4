-- What the history of a stream says: how many refusals there were, and which was the last.
-- Assumes nothing.
use Rattle.std.specs.Prelude.{List, [], ◌∷◌, ℕ, ◌+◌}
use Rattle.rules.specs.World.{World, Outcome, done, refused}
use Rattle.rules.specs.Step.{Input, outcome, step}

-- refused commands, characters and uploads of a stream
abbrev pub refused_in : Outcome → ℕ
refused_in (done v r) = 0
refused_in (refused n r) = 1

unfoldable pub refused_of : World → List Input → ℕ
refused_of w [] = 0
refused_of w (i ∷ l) = refused_in (outcome w i) + refused_of (step w i) l

-- the last one's number, or what it was before
abbrev pub last_in : Outcome → ℕ → ℕ
last_in (done v r) n = n
last_in (refused m r) n = m

unfoldable pub last_of : World → List Input → ℕ → ℕ
last_of w [] n = n
last_of w (i ∷ l) n = last_of (step w i) l (last_in (outcome w i) n)
