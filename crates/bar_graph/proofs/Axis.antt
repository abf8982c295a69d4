-- One axis: the numbers from one depth up to another are an interval. One law, both sides.
-- Assumes nothing.
use mathlib.Core.Path.{◌≡◌}
use mathlib.Core.Bool.{Bool, true, false, ◌&&◌}
use Prim.Native.Nat.{ℕ, ◌+◌, ◌-◌, ◌≤◌, ◌<◌}
use native.Mathlib.Omega.{arith}
use Rattle.pixels.specs.Regions.{within}
use Rattle.pixels.proofs.Tests.{iff, and_one, and_two, and_yes}
use Rattle.pixels.proofs.Intervals.{within_yes, within_true}
use Rattle.bar_graph.specs.Bars.{depth_on}
use Rattle.bar_graph.specs.Axis.{first, end}

-- a test of n and a test of another number m are one test of n, where the inequalities say so
both : (a b n c d m p q : ℕ) → (a ≤ n → n < b → c ≤ m → m < d → (p ≤ n) × (n < q)) → (p ≤ n → n < q → (a ≤ n) × (n < b) × (c ≤ m) × (m < d))
    → (within a b n && within c d m) ≡ within p q n
both a b n c d m p q f h =
    iff (within a b n && within c d m) (within p q n)
    (λ t. let s = within_true a b n (and_one _ (within c d m) t) in
    let u = within_true c d m (and_two (within a b n) _ t) in
    let w = f s.0 s.1 u.0 u.1 in within_yes p q n w.0 w.1)
    (λ t. let s = within_true p q n t in
    let w = h s.0 s.1 in and_yes _ _ (within_yes a b n w.0 w.1) (within_yes c d m w.2 w.3))

-- THE LAW OF THE AXIS
pub depth_interval : (far : Bool) (lo hi a e n : ℕ)
    → (within lo (hi + 1) n && within a e (depth_on far lo hi n)) ≡ within (first far lo hi a e) (end far lo hi a e) n
depth_interval true lo hi a e n =
    both lo (hi + 1) n a e (hi - n) (first true lo hi a e) (end true lo hi a e) (λ h k l m. omega arith) (λ h k. omega arith)
depth_interval false lo hi a e n =
    both lo (hi + 1) n a e (n - lo) (first false lo hi a e) (end false lo hi a e) (λ h k l m. omega arith) (λ h k. omega arith)
