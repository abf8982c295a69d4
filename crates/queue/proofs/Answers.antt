-- What the answers say: when each comes, what a refusal leaves, and that flow control that is off sends nothing.
-- Assumes nothing.
use Rattle.std.proofs.Common.{◌≡◌, ℕ, ◌<◌, ◌≤◌, false, List, refl, arith}
use Rattle.queue.specs.declared.Flow.{Flow}
use Rattle.queue.specs.Watermarks.{while_on}
use Rattle.queue.specs.Queue.{Queue, arrival, taken, stored, counted, arrive_of, advanced, take_of}
use Rattle.queue.specs.Record.{Served, sound_record, arrive_in}
use Rattle.queue.proofs.Cases.{by_test, arrive_cases, take_cases}

module _ (q : Queue) (f : Flow) (b : ℕ) where
  pub accepts : q.held < 80 → (arrive_of q f b).answer ≡ 0
  accepts l = arrive_cases q f b (λ a. a.answer ≡ 0) (λ h. refl) (λ h. absurd (omega arith))

  pub drops : 80 ≤ q.held → (arrive_of q f b).answer ≡ 7
  drops l = arrive_cases q f b (λ a. a.answer ≡ 7) (λ h. absurd (omega arith)) (λ h. refl)

  -- only the lost count changes, and nothing is sent
  pub dropped-only : (arrive_of q f b).answer ≡ 7 → arrive_of q f b ≡ arrival 7 0 (counted q)
  dropped-only = arrive_cases q f b (λ a. a.answer ≡ 7 → a ≡ arrival 7 0 (counted q)) (λ h e. absurd (omega arith)) (λ h e. refl)

  pub off-arrives : f.on ≡ false → (arrive_of q f b).answer ≡ 0 → ((arrive_of q f b).signal ≡ 0) × ((arrive_of q f b).queue.mark ≡ false)
  unfolding while_on stored
  off-arrives o =
      arrive_cases q f b (λ a. a.answer ≡ 0 → (a.signal ≡ 0) × (a.queue.mark ≡ false)) (λ h e. rw o (refl, refl)) (λ h e. absurd (omega arith))

module _ (q : Queue) (f : Flow) where
  pub hands_out : 0 < q.held → (take_of q f).answer ≡ 0
  hands_out l = take_cases q f (λ t. t.answer ≡ 0) (λ h. absurd (omega arith)) (λ h. refl)

  pub has-none : q.held ≡ 0 → (take_of q f).answer ≡ 6
  has-none l = take_cases q f (λ t. t.answer ≡ 6) (λ h. refl) (λ h. absurd (omega arith))

  -- nothing changes
  pub empty-nothing : (take_of q f).answer ≡ 6 → take_of q f ≡ taken 6 0 0 q
  empty-nothing = take_cases q f (λ t. t.answer ≡ 6 → t ≡ taken 6 0 0 q) (λ h e. refl) (λ h e. absurd (omega arith))

  pub off-takes : f.on ≡ false → (take_of q f).answer ≡ 0 → ((take_of q f).signal ≡ 0) × ((take_of q f).queue.mark ≡ false)
  unfolding while_on advanced
  off-takes o =
      take_cases q f (λ t. t.answer ≡ 0 → (t.signal ≡ 0) × (t.queue.mark ≡ false)) (λ h e. absurd (omega arith)) (λ h e. rw o (refl, refl))

-- an arrival hands out no byte
pub arrival-byte : (r : List ℕ) (f : Flow) (b : ℕ) → (arrive_in r f b).byte ≡ 0
unfolding arrive_in
arrival-byte r f b = by_test (λ (x : Served). x.byte ≡ 0) (sound_record r) _ _ (λ _. refl) (λ _. refl)
