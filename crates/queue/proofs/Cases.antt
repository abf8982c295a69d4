-- The two ways of an arrival and of a take, as cases for any property of what they answer.
-- Assumes nothing.
use Rattle.std.proofs.Common.{◌≡◌, ℕ, ◌+◌, ◌-◌, ◌<◌, ◌≤◌, Bool, true, false, cond, eqb, ltb, refl, arith, ltb-false, ltb-true, eqb-true}
use borrow.Author.Tests.{eqb-false}
use Rattle.queue.specs.declared.Flow.{Flow}
use Rattle.queue.specs.Watermarks.{after_arrival, after_take}
use Rattle.queue.specs.Queue.{Queue, Arrival, Taken, arrival, taken, stored, counted, arrive_of, oldest, advanced, take_of}

pub by_test : {A : Type 0} (P : A → Type 0) (t : Bool) (x y : A) → (t ≡ true → P x) → (t ≡ false → P y) → P (cond t x y)
by_test P true x y f g = f refl
by_test P false x y f g = g refl

-- what an accepted byte leaves, and a byte taken
abbrev pub arrived : Queue → Flow → ℕ → Queue
arrived q f b = stored q b (after_arrival f q.mark (q.held + 1)).mark

abbrev pub left : Queue → Flow → Queue
left q f = advanced q (after_take f q.mark (q.held - 1)).mark

module _ (q : Queue) (f : Flow) where
  pub arrive_cases : (b : ℕ) (P : Arrival → Type 0) → (q.held < 80 → P (arrival 0 (after_arrival f q.mark (q.held + 1)).signal (arrived q f b)))
      → (80 ≤ q.held → P (arrival 7 0 (counted q))) → P (arrive_of q f b)
  unfolding arrive_of
  arrive_cases b P y n = by_test P (ltb q.held 80) _ _ (λ t. y (ltb-true q.held 80 t)) (λ t. n (ltb-false q.held 80 t))

  pub take_cases : (P : Taken → Type 0) → (q.held ≡ 0 → P (taken 6 0 0 q))
      → (0 < q.held → P (taken 0 (oldest q) (after_take f q.mark (q.held - 1)).signal (left q f))) → P (take_of q f)
  unfolding take_of
  take_cases P n y = by_test P (eqb q.held 0) _ _ (λ t. n (eqb-true q.held 0 t)) (λ t. y (omega (arith, eqb-false q.held 0 t)))
