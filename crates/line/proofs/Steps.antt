-- A direction is a small step, and a walker is its three fields.
-- Assumes nothing.
use mathlib.Core.Path.{◌≡◌}
use Prim.Native.Nat.{ℕ, ◌<◌}
use native.Mathlib.Omega.{arith}
use lib.IntN.{ℤ}
use lib.Signed.{mag}
use Rattle.line.specs.Walk.{direction_of, walker}
use Rattle.std.proofs.lemmas.Int.{ints}

pub direction_below : (p q : ℕ) → mag (direction_of p q) < 100000
unfolding direction_of
direction_below p q = grind (arith, ints)

pub walker_same : {a b e a' b' e' : ℤ} → a ≡ a' → b ≡ b' → e ≡ e' → walker a b e ≡ walker a' b' e'
walker_same p q r = cc
