-- The refusal count is the history's, modulo 65,536, and the last refusal is the history's last.
-- Assumes nothing.
use mathlib.Core.Path.{◌≡◌, refl, ap, ◌∙◌}
use mathlib.Core.List.{List, [], ◌∷◌}
use Prim.Native.Nat.{ℕ, ◌+◌, ◌%◌, ◌<◌}
use native.Mathlib.Omega.{arith}
use Rattle.state.specs.declared.Refusals.{Refusals}
use Rattle.bar_ledger.specs.Ledger.{Event}
use Rattle.rules.specs.World.{World, Outcome, done, refused, port}
use Rattle.rules.specs.Step.{Input, outcome, refuse, after, step}
use Rattle.rules.specs.Calls.{run}
use Rattle.rules.specs.History.{refused_in, refused_of, last_in, last_of}
use Rattle.rules.proofs.Obeying.{Obeying}
use Rattle.rules.specs.Sound.{Shaped}
use Rattle.rules.proofs.ByByte.{means_of, input_obeys, shaped_step}

pub record Counted (w v : World) (o : Outcome) : Type 0 where
  pub count : (port v).refusals.count ≡ ((port w).refusals.count + refused_in o) % 65536
  pub last : (port v).refusals.last ≡ last_in o (port w).refusals.last

small : (n : ℕ) → n < 65536 → n ≡ (n + 0) % 65536
small n h = omega arith

counted : (w : World) (e : Event) (o : Outcome) → (port w).refusals.count < 65536 → Obeying w e o → Counted w (after w o) o
unfolding after refuse
counted w e (done v r) h f =
    record { count = ap (λ (x : Refusals). x.count) f.refusals ∙ small (port w).refusals.count h; last = ap (λ (x : Refusals). x.last) f.refusals }
counted w e (refused n r) h f = record { count = refl; last = refl }

input_counts : (w : World) (i : Input) → Shaped w → (port w).refusals.count < 65536 → Counted w (step w i) (outcome w i)
unfolding step
input_counts w i s h = counted w (means_of w i) (outcome w i) h (input_obeys w i s)

pub refusal_count : (w : World) (l : List Input) → Shaped w → (port w).refusals.count < 65536
    → (port (run w l)).refusals.count ≡ ((port w).refusals.count + refused_of w l) % 65536
unfolding run refused_of
refusal_count w [] s h = small (port w).refusals.count h
refusal_count w (i ∷ l) s h =
    let c = (input_counts w i s h).count in
    let j = refusal_count (step w i) l (shaped_step w i s) (omega arith) in omega (arith, c, j)

pub last_refusal : (w : World) (l : List Input) → Shaped w → (port w).refusals.count < 65536 → (port (run w l)).refusals.last ≡ last_of w l (port w).refusals.last
unfolding run last_of
last_refusal w [] s h = refl
last_refusal w (i ∷ l) s h =
    let c = input_counts w i s h in
    last_refusal (step w i) l (shaped_step w i s) (omega (arith, c.count)) ∙ ap (λ (n : ℕ). last_of (step w i) l n) c.last
