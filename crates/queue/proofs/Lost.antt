-- The lost count: as many bytes as were dropped, modulo 65536, over any list of operations.
-- Assumes nothing.
use Rattle.std.proofs.Common.{◌≡◌, ℕ, ◌+◌, ◌%◌, ◌<◌, cond, eqb, List, [], ◌∷◌, refl, ◌∙◌, arith}
use Rattle.queue.specs.Queue.{Queue, stored, counted, advanced}
use Rattle.queue.specs.History.{Op, arrives, takes, after, dropped, after_all, dropped_all}
use Rattle.queue.proofs.Cases.{arrive_cases, take_cases}

-- one operation
pub lost_step : (q : Queue) (o : Op) → q.lost < 65536 → (after q o).lost ≡ (q.lost + dropped q o) % 65536
unfolding stored counted advanced
lost_step q (arrives f b) h =
    arrive_cases q f b (λ a. a.queue.lost ≡ (q.lost + cond (eqb a.answer 7) 1 0) % 65536) (λ l. omega arith) (λ l. refl)
lost_step q (takes f) h = take_cases q f (λ t. t.queue.lost ≡ (q.lost + 0) % 65536) (λ l. omega arith) (λ l. omega arith)

-- THE LOST COUNT IS THE NUMBER OF DROPPED BYTES, COUNTED ON FROM THE START
pub lost_all : (q : Queue) (l : List Op) → q.lost < 65536 → (after_all q l).lost ≡ (q.lost + dropped_all q l) % 65536
unfolding after_all dropped_all
lost_all q [] h = omega arith
lost_all q (o ∷ l) h =
    let e = lost_step q o h in
    let r = lost_all (after q o) l (omega arith) in
    r ∙ joined q.lost (dropped q o) (dropped_all (after q o) l) (after q o).lost e
  where
    joined : (a d n m : ℕ) → m ≡ (a + d) % 65536 → (m + n) % 65536 ≡ (a + (d + n)) % 65536
    joined a d n m e = omega arith
