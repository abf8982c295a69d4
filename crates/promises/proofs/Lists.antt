-- A list of calls made is that list of the definitions' calls.
-- Assumes nothing.
use mathlib.Core.Path.{◌≡◌, ◌∙◌, refl, ap}
use mathlib.Core.List.{List, [], ◌∷◌}
use mathlib.Core.Bool.{false, cond}
use Prim.Native.Nat.{ℕ, zero, suc, ◌≤◌}
use native.Mathlib.Omega.{arith}
use lib.Dec.{eqb}
use lib.ListN.{length, take}
use lib.Seq.{take-append_seam}
use Rattle.pixels.proofs.Tests.{by_test}
use Rattle.rules.specs.Step.{Input, time}
use Rattle.rules.specs.Calls.{bytes, taken}
use Rattle.rules.proofs.Streams.{taken_most}
use Rattle.calls.specs.Memory.{Memory, checked, loaded}
use Rattle.calls.specs.Feed.{Fed, feed_of}
use Rattle.calls.specs.Line.{Served}
use Rattle.calls.specs.List.{Board, board, after_all, consumed_all, sent_all}
use Rattle.feed.specs.Called.{Called, called_by, inputs_call, Timed}
use Rattle.promises.specs.Made.{Made, fed, timed, arrived, handed, refused_feed, refused_time, refused_arrive, refused_take, refused_start, lent_memory, MeetsAll, left, left_all, all_consumed, all_sent, calls_of}
use Rattle.promises.proofs.Refusals.{refused_feed_lem, refused_time_lem}
use Rattle.promises.proofs.Unmoved.{feed_unmoved, time_unmoved, arrive_unmoved, take_unmoved, start_unmoved}

-- what inputs leave, by the contract
pub record Fits (m : Memory) (l : List Input) (r : List ℕ) (c : Called) : Type 0 where
  pub memory : c.left ≡ (feed_of m l (length r)).left
  pub answer : c.answer ≡ (feed_of m l (length r)).answer
  pub consumed : c.consumed ≡ (feed_of m l (length r)).consumed
  pub sent : take c.replied c.replies ≡ (feed_of m l (length r)).sent

by_contract : (f : Fed) (r : List ℕ) (c : Called) → c ≡ called_by f r
    → (c.left ≡ f.left) × (c.consumed ≡ f.consumed) × (take c.replied c.replies ≡ f.sent) × (c.answer ≡ f.answer)
by_contract f r c e =
    (ap (λ (x : Called). x.left) e, ap (λ (x : Called). x.consumed) e, ap (λ (x : Called). take x.replied x.replies) e ∙ take-append_seam f.sent _, ap (λ (x : Called). x.answer) e)

pub fits : (m : Memory) (l : List Input) (r : List ℕ) (c : Called) → c ≡ inputs_call m l r → Fits m l r c
unfolding inputs_call
fits m l r c e = let x = by_contract (feed_of m l (length r)) r c e in record { memory = x.0; answer = x.3; consumed = x.1; sent = x.2 }

-- time is consumed where the answer is 0, and else it is not
once : (n ms : ℕ) → n ≤ 1 → cond (eqb (cond (eqb n 1) 0 5) 0) (time ms ∷ []) [] ≡ take n (time ms ∷ [])
once zero ms h = refl
once (suc zero) ms h = refl
once (suc (suc n)) ms h = absurd (omega (arith, h))

pub time_consumed : (m : Memory) (ms room : ℕ) → cond (eqb (feed_of m (time ms ∷ []) room).answer 0) (time ms ∷ []) [] ≡ take (feed_of m (time ms ∷ []) room).consumed (time ms ∷ [])
unfolding feed_of
time_consumed m ms room =
    by_test (λ (f : Fed). cond (eqb f.answer 0) (time ms ∷ []) [] ≡ take f.consumed (time ms ∷ [])) (eqb (checked m) 0) _ _
    (λ _. once (taken (loaded m) room (time ms ∷ [])) ms (taken_most (loaded m) room (time ms ∷ []))) (λ e. rw e)

pub record Same (b : Board) (l : List Made) : Type 0 where
  pub board_same : left_all b l ≡ after_all b (calls_of l)
  pub consumed_same : all_consumed l ≡ consumed_all b (calls_of l)
  pub sent_same : all_sent l ≡ sent_all b (calls_of l)

-- the board that a call leaves is known by another name
renamed : (x y : Board) (l : List Made) → x ≡ y → Same x l → (left_all x l ≡ after_all y (calls_of l)) × (all_consumed l ≡ consumed_all y (calls_of l)) × (all_sent l ≡ sent_all y (calls_of l))
renamed x y l n s =
    (s.board_same ∙ ap (λ (z : Board). after_all z (calls_of l)) n, s.consumed_same ∙ ap (λ (z : Board). consumed_all z (calls_of l)) n, s.sent_same ∙ ap (λ (z : Board). sent_all z (calls_of l)) n)

pub same : (b : Board) (l : List Made) → MeetsAll b l → Same b l
unfolding MeetsAll left_all all_consumed all_sent calls_of after_all consumed_all sent_all
same b [] h = record { board_same = refl; consumed_same = refl; sent_same = refl }
same b (fed p r c ∷ l) h =
    let f = fits b.memory (bytes p) r c h.0 in
    let s = same (board c.left b.queue) l h.1 in
    let n : board c.left b.queue ≡ board (feed_of b.memory (bytes p) (length r)).left b.queue = ap (λ (m : Memory). board m b.queue) f.memory in
    let t = renamed _ _ l n s in
    record { board_same = t.0; consumed_same = rw (f.consumed, t.1); sent_same = rw (f.sent, t.2) }
same b (timed ms r c ∷ l) h =
    let i : List Input = time ms ∷ [] in
    let f = fits b.memory i r (inputs_call b.memory i r) refl in
    let e = h.0 in
    let n : board c.left b.queue ≡ board (feed_of b.memory i (length r)).left b.queue = ap (λ (x : Timed). board x.left b.queue) e ∙ ap (λ (m : Memory). board m b.queue) f.memory in
    let a : c.answer ≡ (feed_of b.memory i (length r)).answer = ap (λ (x : Timed). x.answer) e ∙ f.answer in
    let q : take c.replied c.replies ≡ (feed_of b.memory i (length r)).sent = ap (λ (x : Timed). take x.replied x.replies) e ∙ f.sent in
    let t = renamed _ _ l n (same (board c.left b.queue) l h.1) in
    record { board_same = t.0; consumed_same = rw (a, time_consumed b.memory ms (length r), t.1); sent_same = rw (q, t.2) }
same b (arrived x s ∷ l) h =
    let t = renamed _ _ l (ap (λ (y : Served). board b.memory y.queue) h.0) (same (board b.memory s.queue) l h.1) in
    record { board_same = t.0; consumed_same = t.1; sent_same = t.2 }
same b (handed s ∷ l) h =
    let t = renamed _ _ l (ap (λ (y : Served). board b.memory y.queue) h.0) (same (board b.memory s.queue) l h.1) in
    record { board_same = t.0; consumed_same = t.1; sent_same = t.2 }
same b (refused_feed z p r c ∷ l) h =
    let t = renamed _ b l (feed_unmoved b z p r c h.0) (same _ l h.1) in
    let e = refused_feed_lem (lent_memory z b.memory) p r c h.0.0 h.0.1 in
    let none : take c.consumed (bytes p) ≡ [] = ap (λ (x : Called). take x.consumed (bytes p)) e in
    let quiet : take c.replied c.replies ≡ [] = ap (λ (x : Called). take x.replied x.replies) e in
    record { board_same = t.0; consumed_same = rw none t.1; sent_same = rw quiet t.2 }
same b (refused_time z ms r c ∷ l) h =
    let t = renamed _ b l (time_unmoved b z ms r c h.0) (same _ l h.1) in
    let e = refused_time_lem (lent_memory z b.memory) ms r c h.0.0 h.0.1 in
    let a : eqb c.answer 0 ≡ false = ap (λ (x : Timed). eqb x.answer 0) e ∙ h.0.1 in
    let quiet : take c.replied c.replies ≡ [] = ap (λ (x : Timed). take x.replied x.replies) e in
    record { board_same = t.0; consumed_same = rw a t.1; sent_same = rw quiet t.2 }
same b (refused_arrive k j x s ∷ l) h =
    let t = renamed _ b l (arrive_unmoved b k j x s h.0) (same _ l h.1) in
    record { board_same = t.0; consumed_same = t.1; sent_same = t.2 }
same b (refused_take k j s ∷ l) h =
    let t = renamed _ b l (take_unmoved b k j s h.0) (same _ l h.1) in
    record { board_same = t.0; consumed_same = t.1; sent_same = t.2 }
same b (refused_start n z k s ∷ l) h =
    let t = renamed _ b l (start_unmoved b n z k s h.0) (same _ l h.1) in
    record { board_same = t.0; consumed_same = t.1; sent_same = t.2 }
