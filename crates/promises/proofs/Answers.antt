-- The answers of calls that were made are the rules'.
-- Assumes nothing.
use mathlib.Core.Path.{◌≡◌, ◌∙◌, refl, sym, ap, subst}
use mathlib.Core.List.{List, [], ◌∷◌}
use mathlib.Core.Bool.{Bool, true, false, cond}
use Prim.Native.Nat.{ℕ, ◌≤◌}
use native.Mathlib.Omega.{arith}
use native.Mathlib.Decide.{dec_lt}
use lib.Dec.{eqb, ltb}
use lib.ListN.{length, take}
use borrow.Author.Tests.{lt-ltb, le-ltb, eq-eqb, ne_eqb}
use Rattle.pixels.proofs.Tests.{by_test}
use Rattle.queue.specs.Queue.{Arrival, Taken, arrive_of, take_of}
use Rattle.queue.specs.Record.{decode_of}
use Rattle.record.specs.Writing.{encode_of}
use Rattle.rules.specs.World.{World}
use Rattle.rules.specs.Step.{Input, time}
use Rattle.rules.specs.Calls.{bytes, run, taken}
use Rattle.rules.proofs.Pieces.{taken_goes}
use Rattle.rules.proofs.Streams.{bytes_length}
use Rattle.rules.proofs.GoodByte.{take_comes}
use Rattle.calls.specs.Memory.{Memory, saved, Kept}
use Rattle.calls.specs.Feed.{Fed}
use Rattle.calls.specs.Start.{Started}
use Rattle.calls.specs.Line.{Served, both_sound, arrive_call, take_call}
use Rattle.calls.specs.List.{Board, board}
use Rattle.calls.specs.Bytes.{BytesInAll}
use Rattle.calls.proofs.Demands.{kept_run, loaded_saved, fed_kept, line_kept}
use Rattle.feed.specs.Called.{Called, inputs_call, feed_call, Timed, time_call}
use Rattle.promises.specs.Made.{Made, fed, timed, arrived, handed, refused_feed, refused_time, refused_arrive, refused_take, refused_start, lent, lent_memory, MeetsAll, left, calls_of}
use Rattle.promises.specs.Answers.{Answers, AnswersAll}
use Rattle.promises.proofs.Refusals.{refused_feed_lem, refused_time_lem, refused_start_lem, refused_arrive_lem, refused_take_lem}
use Rattle.promises.proofs.Unmoved.{feed_unmoved, time_unmoved, arrive_unmoved, take_unmoved, start_unmoved}
use Rattle.promises.proofs.Lists.{fits}

-- 0 for a piece consumed whole, and 5 for one that is not
whole-or-not : (n m : ℕ) → n ≤ m → cond {A = ℕ} (eqb n m) 0 5 ≡ cond (ltb n m) 5 0
whole-or-not n m h =
    elim (dec_lt n m) [
      | yes l ↦ rw (lt-ltb n m l, ne_eqb n m (λ e. omega (arith, e, l)))
      | no l ↦ rw (le-ltb n m (omega arith), eq-eqb n m (omega arith))
    ]

push : {A B : Type 0} (f : A → B) (t : Bool) (x y : A) → f (cond t x y) ≡ cond t (f x) (f y)
push f true x y = refl
push f false x y = refl

arrive-number : (r q : List ℕ) (x : ℕ) → (arrive_call r q x).answer ≡ cond (both_sound r q) (cond (ltb (decode_of q).held 80) 0 7) 3
unfolding arrive_call arrive_of
arrive-number r q x =
    push (λ (s : Served). s.answer) (both_sound r q) _ _
    ∙ ap (λ (n : ℕ). cond (both_sound r q) n 3) (push (λ (a : Arrival). a.answer) (ltb (decode_of q).held 80) _ _)

take-number : (r q : List ℕ) → (take_call r q).answer ≡ cond (both_sound r q) (cond (eqb (decode_of q).held 0) 6 0) 3
unfolding take_call take_of
take-number r q =
    push (λ (s : Served). s.answer) (both_sound r q) _ _
    ∙ ap (λ (n : ℕ). cond (both_sound r q) n 3) (push (λ (a : Taken). a.answer) (eqb (decode_of q).held 0) _ _)

-- a call that left the board as it was
unmoved : (b : Board) (l : List Made) (x : Board) → x ≡ b → (MeetsAll b l → AnswersAll b l) → MeetsAll x l → AnswersAll x l
unmoved b l x e f = subst (λ (y : Board). MeetsAll y l → AnswersAll y l) (sym e) f

module _ (w : World) (q : List ℕ) (k : Kept w) where
  fed-answers : (p r : List ℕ) (c : Called) → c ≡ feed_call (saved w) p r → Answers (board (saved w) q) (fed p r c)
  fed-answers p r c e =
      let f = fits (saved w) (bytes p) r c e in
      let d = fed_kept w (bytes p) (length r) k in
      let n = taken w (length r) (bytes p) in
      let g = taken_goes w (length r) (bytes p) in
      let s : length (bytes p) ≡ length p = bytes_length p in
      let m : c.consumed ≡ n = f.consumed ∙ ap (λ (x : Fed). x.consumed) d in
      let a : c.answer ≡ cond (eqb n (length p)) 0 5 = f.answer ∙ ap (λ (x : Fed). x.answer) d ∙ ap (λ (x : ℕ). cond (eqb n x) 0 5) s in
      (rw (loaded_saved w k, m) g, a ∙ rw m (whole-or-not n (length p) (omega (arith, s, g.most))))

  -- what inputs leave is such a world again
  inputs-left : (l : List Input) (r : List ℕ) → (inputs_call (saved w) l r).left ≡ saved (run w (take (taken w (length r) l) l))
  inputs-left l r = (fits (saved w) l r (inputs_call (saved w) l r) refl).memory ∙ ap (λ (x : Fed). x.left) (fed_kept w l (length r) k)

  timed-answers : (ms : ℕ) (r : List ℕ) (c : Timed) → c ≡ time_call (saved w) ms r → Answers (board (saved w) q) (timed ms r c)
  unfolding taken
  timed-answers ms r c e =
      let l : List Input = time ms ∷ [] in
      ap (λ (x : Timed). x.answer) e ∙ (fits (saved w) l r (inputs_call (saved w) l r) refl).answer ∙ ap (λ (x : Fed). x.answer) (fed_kept w l (length r) k)
      ∙ by_test (λ (n : ℕ). cond {A = ℕ} (eqb n 1) 0 5 ≡ cond (ltb (length r) 2) 5 0) (ltb (length r) 2) _ _ (λ t. rw t) (λ t. rw t)

  arrive-answers : (x : ℕ) (s : Served) → s ≡ arrive_call (encode_of w.state) q x → Answers (board (saved w) q) (arrived x s)
  arrive-answers x s e = ap (λ (y : Served). y.answer) e ∙ arrive-number (encode_of w.state) q x ∙ rw (line_kept w q k)

  take-answers : (s : Served) → s ≡ take_call (encode_of w.state) q → Answers (board (saved w) q) (handed s)
  take-answers s e = ap (λ (y : Served). y.answer) e ∙ take-number (encode_of w.state) q ∙ rw (line_kept w q k)

-- after every call: the display's memory is that of a world which passes the checks
pub answered : (w : World) (q : List ℕ) (l : List Made) → Kept w → MeetsAll (board (saved w) q) l → BytesInAll (calls_of l) → AnswersAll (board (saved w) q) l
unfolding MeetsAll AnswersAll calls_of
answered w q [] k h i = tt
answered w q (fed p r c ∷ l) k h i =
    let n = taken w (length r) (bytes p) in
    let e = sym (ap (λ (x : Called). x.left) h.0 ∙ inputs-left w q k (bytes p) r) in
    let g = kept_run w (take n (bytes p)) k (take_comes n (bytes p) i.0) in
    (fed-answers w q k p r c h.0, subst (λ (m : Memory). MeetsAll (board m q) l → AnswersAll (board m q) l) e (λ j. answered (run w (take n (bytes p))) q l g j i.1) h.1)
answered w q (timed ms r c ∷ l) k h i =
    let o : List Input = time ms ∷ [] in
    let n = taken w (length r) o in
    let e = sym (ap (λ (x : Timed). x.left) h.0 ∙ inputs-left w q k o r) in
    let g = kept_run w (take n o) k (take_comes n o i.0) in
    (timed-answers w q k ms r c h.0, subst (λ (m : Memory). MeetsAll (board m q) l → AnswersAll (board m q) l) e (λ j. answered (run w (take n o)) q l g j i.1) h.1)
answered w q (arrived x s ∷ l) k h i = (arrive-answers w q k x s h.0, answered w s.queue l k h.1 i.1)
answered w q (handed s ∷ l) k h i = (take-answers w q k s h.0, answered w s.queue l k h.1 i.1)
answered w q (refused_feed z p r c ∷ l) k h i =
    let b = board (saved w) q in
    (ap (λ (x : Called). x.answer) (refused_feed_lem (lent_memory z (saved w)) p r c h.0.0 h.0.1), unmoved b l (left b (refused_feed z p r c)) (feed_unmoved b z p r c h.0) (λ j. answered w q l k j i) h.1)
answered w q (refused_time z ms r c ∷ l) k h i =
    let b = board (saved w) q in
    (ap (λ (x : Timed). x.answer) (refused_time_lem (lent_memory z (saved w)) ms r c h.0.0 h.0.1), unmoved b l (left b (refused_time z ms r c)) (time_unmoved b z ms r c h.0) (λ j. answered w q l k j i) h.1)
answered w q (refused_arrive t j x s ∷ l) k h i =
    let b = board (saved w) q in
    (ap (λ (y : Served). y.answer) (refused_arrive_lem (lent t (encode_of w.state)) (lent j q) x s h.0.0 h.0.1), unmoved b l (left b (refused_arrive t j x s)) (arrive_unmoved b t j x s h.0) (λ u. answered w q l k u i) h.1)
answered w q (refused_take t j s ∷ l) k h i =
    let b = board (saved w) q in
    (ap (λ (y : Served). y.answer) (refused_take_lem (lent t (encode_of w.state)) (lent j q) s h.0.0 h.0.1), unmoved b l (left b (refused_take t j s)) (take_unmoved b t j s h.0) (λ u. answered w q l k u i) h.1)
answered w q (refused_start d z j s ∷ l) k h i =
    let b = board (saved w) q in
    (ap (λ (y : Started). y.answer) (refused_start_lem d (lent_memory z (saved w)) (lent j q) s h.0.0 h.0.1), unmoved b l (left b (refused_start d z j s)) (start_unmoved b d z j s h.0) (λ u. answered w q l k u i) h.1)
