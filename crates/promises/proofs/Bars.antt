-- THE PROMISE OVER EVERY LIST OF CALLS of the exported functions, demand 3 among it: pieces and times with any reply room, arrivals, takes and
-- refused calls between, from a start or from any memory that passes the checks, whatever stands in the queue record.
-- Assumes nothing.
use mathlib.Core.Path.{◌≡◌, ◌∙◌, sym, ap, subst}
use mathlib.Core.List.{List}
use mathlib.Core.Bool.{true}
use Prim.Native.Nat.{ℕ}
use lib.ListN.{length, take}
use lib.Seq.{take-length}
use Rattle.pixels.specs.Framebuffer.{On}
use Rattle.bar_graph.specs.declared.Bar.{Bar}
use Rattle.bar_graph.specs.Bars.{rectangle_of, Shows}
use Rattle.bar_ledger.specs.Claim.{ledger_at, Agrees}
use Rattle.bar_ledger.specs.Since.{SinceZero}
use Rattle.bar_ledger.proofs.Since.{since_zero}
use Rattle.queue.specs.Record.{Bytes}
use Rattle.state.specs.declared.Config.{Config}
use Rattle.state.specs.State.{bar_at}
use Rattle.rules.specs.World.{World, panel}
use Rattle.rules.specs.Step.{Input, step}
use Rattle.rules.specs.Calls.{run}
use Rattle.rules.specs.Events.{view, event}
use Rattle.calls.specs.Memory.{Memory, checked, loaded}
use Rattle.calls.specs.Start.{Started, start_checked, start_of, start_world, emptied}
use Rattle.calls.specs.List.{Board, board}
use Rattle.calls.specs.Bytes.{BytesInAll, ByteMemory}
use Rattle.calls.specs.Served.{Served}
use Rattle.calls.proofs.Inside.{run_along}
use Rattle.calls.proofs.Demands.{checked_kept, saved_loaded, start_kept, calls_served, started_served, start_left}
use Rattle.promises.specs.Made.{Made, MeetsAll, left_all, all_consumed, calls_of}
use Rattle.promises.specs.Answers.{AnswersAll}
use Rattle.promises.specs.Promise.{ShowsWhole, Promise}
use Rattle.promises.proofs.Lists.{same}
use Rattle.promises.proofs.Answers.{answered}

-- bars whose rectangles lie on the framebuffer show every pixel
module _ (w : World) (l : List Input) (g : Agrees view step event w l)
    (inside : (n i x y : ℕ) → rectangle_of (bar_at (panel (run w (take n l))) i).bar x y ≡ true → On (length (run w (take n l)).framebuffer) x y) where
  shown : (n i : ℕ) → (ledger_at view step event w l n i).known ≡ true → ShowsWhole (ledger_at view step event w l n i).bar (run w (take n l)).framebuffer
  shown n i e =
      let k = (ledger_at view step event w l n i).bar in
      let q = run_along w (take n l) in
      let s : Shows k k.value (run w (take n l)).framebuffer = subst (λ (v : World). Shows k k.value v.framebuffer) q ((g.shown n).bars i e) in
      let b : k ≡ (bar_at (panel (run w (take n l))) i).bar = g.same n i ∙ ap (λ (v : World). (bar_at (panel v) i).bar) q in
      record { pixels = λ x y r. s.pixels x y (inside n i x y (subst (λ (c : Bar). rectangle_of c x y ≡ true) b r)) r }

  zeroed : (i : ℕ) → SinceZero view step event w l i → ShowsWhole (bar_at (panel (run w l)) i).bar (run w l).framebuffer
  zeroed i z =
      let t = take-length l in
      let q = run_along w (take (length l) l) in
      let b = g.same (length l) i ∙ ap (λ (v : World). (bar_at (panel v) i).bar) q in
      subst (λ (m : List Input). ShowsWhole (bar_at (panel (run w m)) i).bar (run w m).framebuffer) t
      (subst (λ (c : Bar). ShowsWhole c (run w (take (length l) l)).framebuffer) b (shown (length l) i (since_zero view step event w l i g z)))

carried : (b : Board) (l : List Made) → MeetsAll b l → AnswersAll b l → Served b (calls_of l) → Promise b l
carried b l h a v =
    let s = same b l h in
    let w = loaded b.memory in
    let e = s.consumed_same in
    let g : Agrees view step event w (all_consumed l) = rw e v.bars in
    let i : (n i x y : ℕ) → rectangle_of (bar_at (panel (run w (take n (all_consumed l)))) i).bar x y ≡ true → On (length (run w (take n (all_consumed l))).framebuffer) x y = rw e v.inside in
    let r : loaded (left_all b l).memory ≡ run w (all_consumed l) = rw (s.board_same, e) v.reads in
    record {
      answers = a;
      stream = rw (s.board_same, s.consumed_same) v.stream;
      sent = rw (s.sent_same, s.consumed_same) v.sent;
      bars = g;
      shown = shown w (all_consumed l) g i;
      since_zero = λ n z. subst (λ (u : World). ShowsWhole (bar_at (panel u) n).bar u.framebuffer) (sym r) (zeroed w (all_consumed l) g i n z);
      count = rw (s.board_same, s.consumed_same) v.count;
      last = rw (s.board_same, s.consumed_same) v.last;
      never_28 = rw s.board_same v.never_28;
      config = rw s.board_same v.config;
      used = rw s.board_same (record { true_sum = v.used });
      used_along = rw e v.used_along;
      again = rw s.board_same v.again;
      line_again = rw s.board_same v.line_again;
    }

pub promised : (m : Memory) (q : List ℕ) (l : List Made) → ByteMemory m → checked m ≡ 0 → MeetsAll (board m q) l → BytesInAll (calls_of l) → Promise (board m q) l
promised m q l b e h i =
    let a = subst (λ (n : Memory). MeetsAll (board n q) l → AnswersAll (board n q) l) (saved_loaded m e) (λ j. answered (loaded m) q l (checked_kept m b e) j i) in
    carried (board m q) l h (a h) (calls_served m q (calls_of l) b e i)

pub promised_from_start : (f : Config) (m : Memory) (q : List ℕ) (s : Started) (l : List Made) → s ≡ start_of f m q → Bytes m.store → start_checked f m q ≡ 0
    → MeetsAll (board s.left s.queue) l → BytesInAll (calls_of l) → Promise (board s.left s.queue) l
promised_from_start f m q s l e b c h i =
    let d : board (start_of f m q).left (start_of f m q).queue ≡ board s.left s.queue = ap (λ (x : Started). board x.left x.queue) (sym e) in
    let t = start_left f m q c ∙ d in
    let a = subst (λ (x : Board). MeetsAll x l → AnswersAll x l) t (λ j. answered (start_world f m.store) (emptied q) l (start_kept f m q b c) j i) in
    carried (board s.left s.queue) l h (a h) (subst (λ (x : Board). Served x (calls_of l)) d (started_served f m q (calls_of l) b c i))
