-- THE LOST COUNT over every list of calls: the arrivals that answered 7, counted on from where it began, modulo 65,536.
-- Assumes nothing.
use mathlib.Core.Path.{◌≡◌, ◌∙◌, refl, ap}
use mathlib.Core.Bool.{cond}
use mathlib.Core.List.{List, [], ◌∷◌}
use native.Mathlib.Omega.{arith}
use Prim.Native.Nat.{ℕ, ◌+◌, ◌%◌}
use lib.Dec.{eqb}
use Rattle.pixels.proofs.Tests.{by_test}
use Rattle.queue.specs.declared.Flow.{Flow}
use Rattle.queue.specs.Queue.{Queue, stored, counted, advanced, arrive_of, take_of}
use Rattle.queue.specs.Record.{decode_of}
use Rattle.queue.proofs.Cases.{arrive_cases, take_cases}
use Rattle.queue.proofs.Contents.{arrival_sound, take_sound}
use Rattle.queue.proofs.Round.{decode_encode, decoded_sound}
use Rattle.calls.specs.Line.{Served, both_sound, flow_in, arrive_call, take_call}
use Rattle.calls.specs.List.{Board, board}
use Rattle.calls.proofs.LineCalls.{queue_sound}
use Rattle.promises.specs.Made.{Made, fed, timed, refused_feed, refused_time, refused_arrive, refused_take, refused_start, lent, MeetsAll, left, left_all, all_dropped}
use Rattle.promises.specs.Made as made
use Rattle.promises.proofs.Refusals.{refused_arrive_lem}
use Rattle.promises.proofs.Unmoved.{feed_unmoved, time_unmoved, arrive_unmoved, take_unmoved, start_unmoved}

-- the count in a queue record
abbrev pub lost : List ℕ → ℕ
lost q = (decode_of q).lost

arrived_lost : (k : Queue) (f : Flow) (b : ℕ) → (arrive_of k f b).queue.lost % 65536 ≡ (k.lost + cond (eqb (arrive_of k f b).answer 7) 1 0) % 65536
unfolding stored counted
arrived_lost k f b = arrive_cases k f b (λ a. a.queue.lost % 65536 ≡ (k.lost + cond (eqb a.answer 7) 1 0) % 65536) (λ l. omega arith) (λ l. omega arith)

taken_lost : (k : Queue) (f : Flow) → (take_of k f).queue.lost % 65536 ≡ (k.lost + 0) % 65536
unfolding advanced
taken_lost k f = take_cases k f (λ t. t.queue.lost % 65536 ≡ (k.lost + 0) % 65536) (λ l. omega arith) (λ l. omega arith)

arrive_lost : (st q : List ℕ) (b : ℕ) → lost (arrive_call st q b).queue % 65536 ≡ (lost q + cond (eqb (arrive_call st q b).answer 7) 1 0) % 65536
unfolding arrive_call
arrive_lost st q b =
    by_test (λ (s : Served). lost s.queue % 65536 ≡ (lost q + cond (eqb s.answer 7) 1 0) % 65536) (both_sound st q) _ _
    (λ e. ap (λ (k : Queue). k.lost % 65536) (decode_encode (arrive_of (decode_of q) (flow_in st) b).queue (arrival_sound (decode_of q) (flow_in st) b (decoded_sound q (queue_sound st q e))).size)
    ∙ arrived_lost (decode_of q) (flow_in st) b)
    (λ e. omega arith)

take_lost : (st q : List ℕ) → lost (take_call st q).queue % 65536 ≡ (lost q + 0) % 65536
unfolding take_call
take_lost st q =
    by_test (λ (s : Served). lost s.queue % 65536 ≡ (lost q + 0) % 65536) (both_sound st q) _ _
    (λ e. ap (λ (k : Queue). k.lost % 65536) (decode_encode (take_of (decode_of q) (flow_in st)).queue (take_sound (decode_of q) (flow_in st) (decoded_sound q (queue_sound st q e))).size)
    ∙ taken_lost (decode_of q) (flow_in st))
    (λ e. omega arith)

joined : (a d n m r : ℕ) → m % 65536 ≡ (a + d) % 65536 → r ≡ (m + n) % 65536 → r ≡ (a + (d + n)) % 65536
joined a d n m r e f = omega arith

-- a call that left the board as it was drops nothing
stayed : (b x : Board) (d n r : ℕ) → x ≡ b → d ≡ 0 → r ≡ (lost x.queue + n) % 65536 → r ≡ (lost b.queue + (d + n)) % 65536
stayed b x d n r e f h = let q : lost x.queue ≡ lost b.queue = ap (λ (y : Board). lost y.queue) e in omega (arith, q, f, h)

pub lost_counted : (b : Board) (l : List Made) → MeetsAll b l → lost (left_all b l).queue % 65536 ≡ (lost b.queue + all_dropped l) % 65536
unfolding MeetsAll left_all all_dropped
lost_counted b [] h = omega arith
lost_counted b (fed p r c ∷ l) h = joined (lost b.queue) 0 (all_dropped l) (lost b.queue) _ (omega arith) (lost_counted (board c.left b.queue) l h.1)
lost_counted b (timed ms r c ∷ l) h = joined (lost b.queue) 0 (all_dropped l) (lost b.queue) _ (omega arith) (lost_counted (board c.left b.queue) l h.1)
lost_counted b (made.arrived x s ∷ l) h =
    let e : lost s.queue % 65536 ≡ (lost b.queue + cond (eqb s.answer 7) 1 0) % 65536 = rw h.0 (arrive_lost b.memory.state b.queue x) in
    joined (lost b.queue) (cond (eqb s.answer 7) 1 0) (all_dropped l) (lost s.queue) _ e (lost_counted (board b.memory s.queue) l h.1)
lost_counted b (made.handed s ∷ l) h =
    let e : lost s.queue % 65536 ≡ (lost b.queue + 0) % 65536 = rw h.0 (take_lost b.memory.state b.queue) in
    joined (lost b.queue) 0 (all_dropped l) (lost s.queue) _ e (lost_counted (board b.memory s.queue) l h.1)
lost_counted b (refused_feed z p r c ∷ l) h = stayed b (left b (refused_feed z p r c)) 0 (all_dropped l) _ (feed_unmoved b z p r c h.0) refl (lost_counted _ l h.1)
lost_counted b (refused_time z ms r c ∷ l) h = stayed b (left b (refused_time z ms r c)) 0 (all_dropped l) _ (time_unmoved b z ms r c h.0) refl (lost_counted _ l h.1)
lost_counted b (refused_arrive t k x s ∷ l) h =
    let e = refused_arrive_lem (lent t b.memory.state) (lent k b.queue) x s h.0.0 h.0.1 in
    stayed b (left b (refused_arrive t k x s)) _ (all_dropped l) _ (arrive_unmoved b t k x s h.0) (ap (λ (y : Served). cond (eqb y.answer 7) 1 0) e) (lost_counted _ l h.1)
lost_counted b (refused_take t k s ∷ l) h = stayed b (left b (refused_take t k s)) 0 (all_dropped l) _ (take_unmoved b t k s h.0) refl (lost_counted _ l h.1)
lost_counted b (refused_start n z k s ∷ l) h = stayed b (left b (refused_start n z k s)) 0 (all_dropped l) _ (start_unmoved b n z k s h.0) refl (lost_counted _ l h.1)
