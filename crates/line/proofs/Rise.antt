-- THE ERROR TERM IS THE DIVISION: a step of the walker takes it from pixel i of the rule to pixel i + 1.
-- Assumes nothing.
use mathlib.Core.Path.{◌≡◌, sym, ap, ◌∙◌}
use mathlib.Core.Bool.{true, false}
use Prim.Native.Nat.{ℕ, zero, suc, ◌+◌, ◌*◌, ◌/◌, ◌<◌, ◌≤◌}
use native.Mathlib.Omega.{arith}
use native.Mathlib.Nat.{mul-le-mul_right, div-eq_of_lt-le, div-lt_iff_lt-mul, div-mul-le_self, lt-div-mul-add, div-zero}
use native.Mathlib.Decide.{dec_lt}
use lib.IntN.{ℤ, pos, ◌+ℤ◌, ◌-ℤ◌}
use lib.Signed.{lt_z}
use borrow.Author.Tests.{lt-ltb, le-ltb}
use Rattle.line.specs.declared.Walker.{Walker}
use Rattle.line.specs.Line.{distance, towards, rise}
use Rattle.line.specs.Walk.{direction_of, walker, slope, step_of, slope_of}
use Rattle.std.proofs.lemmas.Int.{ints}

-- ---- the rise

pub rise_high : (d e i : ℕ) → 0 < d → 2 * (i * e) + d < rise d e i * (2 * d) + 2 * d
unfolding rise
rise_high d e i h = lt-div-mul-add {a = 2 * (i * e) + d} {b = 2 * d} (omega arith)

pub rise_low : (d e i : ℕ) → rise d e i * (2 * d) ≤ 2 * (i * e) + d
unfolding rise
rise_low d e i = div-mul-le_self (2 * (i * e) + d) (2 * d)

pub rise_is : (d e i k : ℕ) → k * (2 * d) ≤ 2 * (i * e) + d → 2 * (i * e) + d < (k + 1) * (2 * d) → rise d e i ≡ k
unfolding rise
rise_is d e i k h l = div-eq_of_lt-le (2 * d) h l

pub rise_none : (d e : ℕ) → rise d e 0 ≡ 0
unfolding rise
rise_none zero e = div-zero (2 * (0 * e) + 0)
rise_none (suc d) e = rise_is (suc d) e 0 0 (omega arith) (omega arith)

-- it is e at most
pub rise_le : (d e i : ℕ) → i ≤ d → rise d e i ≤ e
unfolding rise
rise_le zero e i h = let z : i ≡ 0 = omega arith in rw (z, rise_none 0 e) (omega arith)
rise_le (suc d) e i h =
    let m : i * e ≤ suc d * e = mul-le-mul_right e h in
    let q : (2 * (i * e) + suc d) / (2 * suc d) < e + 1 = (div-lt_iff_lt-mul {k = 2 * suc d} {x = 2 * (i * e) + suc d} {y = e + 1} (omega arith)).1 (omega arith) in
    omega arith

-- ---- a step on an axis

towards_step : (p q n : ℕ) → n < distance p q → pos (towards p q n) +ℤ direction_of p q ≡ pos (towards p q (n + 1))
unfolding towards direction_of
towards_step p q n h =
    elim (dec_lt p q) [
      | yes l ↦ rw (lt-ltb p q l) (ap pos (omega arith))
      | no l ↦ rw (le-ltb p q (omega arith), lt-ltb q p (omega arith)) (omega (arith, ints))
    ]

pub towards_none : (p q : ℕ) → towards p q 0 ≡ p
unfolding towards
towards_none p q = elim (dec_lt p q) [ yes l ↦ rw (lt-ltb p q l) (omega arith) | no l ↦ rw (le-ltb p q (omega arith)) (omega arith) ]

pub towards_below : (p q n : ℕ) → p < 256 → q < 256 → n ≤ distance p q → towards p q n < 256
unfolding towards
towards_below p q n hp hq h =
    elim (dec_lt p q) [ yes l ↦ rw (lt-ltb p q l) (omega arith) | no l ↦ rw (le-ltb p q (omega arith)) (omega arith) ]

-- ---- a step of the walker

pub step_low : (a sa b sb e up down a' e' : ℤ) → a +ℤ sa ≡ a' → e +ℤ up ≡ e' → lt_z e' (pos 0) ≡ true
    → step_of (walker a b e) (slope sa sb up down) ≡ walker a' b e'
unfolding step_of
step_low a sa b sb e up down a' e' p q t = rw (p, q, t)

pub step_high : (a sa b sb e up down a' b' m e' : ℤ) → a +ℤ sa ≡ a' → e +ℤ up ≡ m → lt_z m (pos 0) ≡ false → b +ℤ sb ≡ b' → m -ℤ down ≡ e'
    → step_of (walker a b e) (slope sa sb up down) ≡ walker a' b' e'
unfolding step_of
step_high a sa b sb e up down a' b' m e' p q t r s = rw (p, q, t, r, s)

-- the walker after i steps, the minor axis k steps on: the error term is the remainder of the division, less the divisor
abbrev walker_by : ℕ → ℕ → ℕ → ℕ → ℕ → ℕ → Walker
walker_by a1 a2 b1 b2 i k =
    walker (pos (towards a1 a2 i)) (pos (towards b1 b2 k)) (pos (2 * (i * distance b1 b2) + distance a1 a2) -ℤ pos ((k + 1) * (2 * distance a1 a2)))

-- and k by the rule
unfoldable pub walker_at : ℕ → ℕ → ℕ → ℕ → ℕ → Walker
walker_at a1 a2 b1 b2 i = walker_by a1 a2 b1 b2 i (rise (distance a1 a2) (distance b1 b2) i)

-- THE LAW, for both roles of the axes
pub step_at_lem : (a1 a2 b1 b2 i : ℕ) → distance b1 b2 ≤ distance a1 a2 → i < distance a1 a2
    → step_of (walker_at a1 a2 b1 b2 i) (slope_of a1 a2 b1 b2) ≡ walker_at a1 a2 b1 b2 (i + 1)
unfolding walker_at slope_of
step_at_lem a1 a2 b1 b2 i h l =
    elim (dec_lt (2 * (i * e) + d + (e + e)) ((k + 1) * (2 * d))) [
      | yes q ↦ step_low _ _ _ _ _ _ _ _ _ (towards_step a1 a2 i l) (omega (arith, ints)) (grind (arith, ints))
          ∙ ap (walker_by a1 a2 b1 b2 (i + 1)) (sym (rise_is d e (i + 1) k (omega (arith, rise_low d e i)) (omega arith)))
      | no q ↦ (let r : rise d e (i + 1) ≡ k + 1 = rise_is d e (i + 1) (k + 1) (omega arith) (omega (arith, rise_high d e i (omega arith))) in
          let t : k < e = omega (arith, rise_le d e (i + 1) (omega arith)) in
          step_high _ _ _ _ _ _ _ _ _ (pos (2 * (i * e) + d + (e + e)) -ℤ pos ((k + 1) * (2 * d))) _ (towards_step a1 a2 i l) (omega (arith, ints)) (grind (arith, ints)) (towards_step b1 b2 k t) (omega (arith, ints))
          ∙ ap (walker_by a1 a2 b1 b2 (i + 1)) (sym r))
    ]
  where
    d : ℕ
    d = distance a1 a2

    e : ℕ
    e = distance b1 b2

    k : ℕ
    k = rise (distance a1 a2) (distance b1 b2) i
