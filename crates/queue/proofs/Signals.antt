-- The signals over any list of operations: a 255 only after a 254, and a mark that is up only after one.
-- Assumes nothing.
use Rattle.std.proofs.Common.{◌≡◌, ℕ, zero, suc, ◌+◌, ◌-◌, ◌≤◌, Bool, true, false, cond, not, ◌&&◌, eqb, leb, List, [], ◌∷◌, take, sym, refl, ap, ◌∙◌, arith}
use mathlib.Core.Bool.{false≢true}
use Rattle.queue.specs.Watermarks.{Watermark, watermark, high_water, low_water, while_on}
use Rattle.queue.specs.Queue.{Queue, stored, counted, advanced}
use Rattle.queue.specs.Record.{bit}
use Rattle.queue.specs.History.{Op, arrives, takes, after, signal, after_all, signals, count, latest}
use Rattle.queue.proofs.Cases.{arrive_cases, take_cases}

-- ---- one operation

-- what may become of the mark: first the mark before, then the signal and the mark after
pub data Move : Bool → Watermark → Type 0 where
  stays : (m : Bool) → Move m (watermark 0 m)
  raised : Move false (watermark 254 true)
  lowered : Move true (watermark 255 false)
  silent : (m : Bool) → Move m (watermark 0 false)

high_moves : (on mark near : Bool) → Move mark (cond on (cond (not mark && near) (watermark 254 true) (watermark 0 mark)) (watermark 0 false))
high_moves false mark near = silent mark
high_moves true true near = stays true
high_moves true false true = raised
high_moves true false false = stays false

low_moves : (on mark near : Bool) → Move mark (cond on (cond (mark && near) (watermark 255 false) (watermark 0 mark)) (watermark 0 false))
low_moves false mark near = silent mark
low_moves true false near = stays false
low_moves true true true = lowered
low_moves true true false = stays true

-- EVERY OPERATION IS ONE OF THE FOUR
pub moves : (q : Queue) (o : Op) → Move q.mark (watermark (signal q o) (after q o).mark)
unfolding stored counted advanced high_water low_water while_on
moves q (arrives f b) =
    arrive_cases q f b (λ a. Move q.mark (watermark a.signal a.queue.mark))
    (λ h. high_moves f.on q.mark (leb (80 - (q.held + 1)) f.full))
    (λ h. stays q.mark)
moves q (takes f) =
    take_cases q f (λ t. Move q.mark (watermark t.signal t.queue.mark))
    (λ h. stays q.mark)
    (λ h. low_moves f.on q.mark (leb (q.held - 1) f.empty))

-- ---- counted

balanced : {m : Bool} {w : Watermark} → Move m w → cond (eqb w.signal 255) 1 0 + bit w.mark ≤ cond (eqb w.signal 254) 1 0 + bit m
balanced (stays m) = omega arith
balanced raised = omega arith
balanced lowered = omega arith
balanced (silent m) = omega arith

pub counts : (q : Queue) (l : List Op) → count 255 (signals q l) + bit (after_all q l).mark ≤ count 254 (signals q l) + bit q.mark
unfolding count signals after_all
counts q [] = omega arith
counts q (o ∷ l) = let h = balanced (moves q o) in let k = counts (after q o) l in omega arith

signals_take : (q : Queue) (l : List Op) (k : ℕ) → take k (signals q l) ≡ signals q (take k l)
unfolding signals
signals_take q l zero = refl
signals_take q [] (suc k) = refl
signals_take q (o ∷ l) (suc k) = ap (λ (x : List ℕ). signal q o ∷ x) (signals_take (after q o) l k)

-- FROM A MARK THAT IS DOWN, NO PREFIX HAS MORE 255S THAN 254S
pub prefix_counts : (q : Queue) (l : List Op) (k : ℕ) → q.mark ≡ false → count 255 (take k (signals q l)) ≤ count 254 (take k (signals q l))
prefix_counts q l k e =
    let h : bit q.mark ≡ 0 = rw e in
    rw (signals_take q l k) (omega (arith, counts q (take k l)))

-- ---- in order

-- a mark that is up: the latest signal is a 254
pub record Told (mark : Bool) (s : ℕ) : Type 0 where
  pub told : mark ≡ true → s ≡ 254

told_step : {m : Bool} {w : Watermark} {s : ℕ} → Move m w → Told m s → Told w.mark (cond (eqb w.signal 0) s w.signal)
told_step (stays m) t = t
told_step raised t = record { told = λ e. refl }
told_step lowered t = record { told = λ e. absurd (false≢true e) }
told_step (silent m) t = record { told = λ e. absurd (false≢true e) }

told_all : (q : Queue) (l : List Op) (s : ℕ) → Told q.mark s → Told (after_all q l).mark (latest s (signals q l))
unfolding latest signals after_all
told_all q [] s t = t
told_all q (o ∷ l) s t = told_all (after q o) l _ (told_step (moves q o) t)

-- FROM A MARK THAT IS DOWN, A MARK THAT IS UP WAS TOLD BY A 254, AND NO 255 HAS COME SINCE
pub mark_told : (q : Queue) (l : List Op) → q.mark ≡ false → (after_all q l).mark ≡ true → latest 0 (signals q l) ≡ 254
mark_told q l e = (told_all q l 0 (record { told = λ u. absurd (false≢true (sym e ∙ u)) })).told

only_up : {m : Bool} {w : Watermark} → Move m w → w.signal ≡ 255 → m ≡ true
only_up (stays m) e = absurd (omega arith)
only_up raised e = absurd (omega arith)
only_up lowered e = refl
only_up (silent m) e = absurd (omega arith)

-- BEFORE EVERY 255 THE LATEST SIGNAL IS A 254
pub before_255 : (q : Queue) (l : List Op) (o : Op) → q.mark ≡ false → signal (after_all q l) o ≡ 255 → latest 0 (signals q l) ≡ 254
before_255 q l o e s = mark_told q l e (only_up (moves (after_all q l) o) s)
