-- One law for each way through the code.
-- Assumes nothing.
use Rattle.std.proofs.Common.{◌≡◌, ℕ, ◌+◌, ◌-◌, ◌<◌, ◌≤◌, Bool, true, false, not, eqb, List, sym, ◌∙◌, le-ltb, lt-ltb, eq-eqb, ne_eqb}
use borrow.Author.Tests.{not-true, not-false}
use Rattle.queue.specs.declared.Flow.{Flow}
use Rattle.queue.specs.Watermarks.{Watermark, high_water, low_water, while_on}
use Rattle.queue.specs.Queue.{stored, counted, arrive_of, oldest, advanced, take_of}
use Rattle.queue.specs.Record.{at, decode_of, encode_of, sound_record, Passed, served, arrive_in, take_in, Bytes}
use Rattle.queue.proofs.Round.{passed, passes, rewritten}

-- ---- arrivals and takes

module _ (r : List ℕ) (t : Bool) (e : t ≡ sound_record r) where
  pub arrive_unsound : (f : Flow) (b : ℕ) → not t ≡ true → served 3 0 0 r ≡ arrive_in r f b
  unfolding arrive_in
  arrive_unsound f b h = rw (← e, not-true t h)

  pub take_unsound : (f : Flow) → not t ≡ true → served 3 0 0 r ≡ take_in r f
  unfolding take_in
  take_unsound f h = rw (← e, not-true t h)

  pub fine : not t ≡ false → Passed r
  fine h = passed r (sym e ∙ not-false t h)

module _ (r : List ℕ) (p : Passed r) (f : Flow) where
  pub arrives : (b : ℕ) (v w : Watermark) (q : List ℕ) → at r 81 < 80 → v ≡ high_water f.full (eqb (at r 82) 1) (at r 81 + 1) → w ≡ while_on f v
      → q ≡ encode_of (stored (decode_of r) b w.mark) → served 0 0 w.signal q ≡ arrive_in r f b
  unfolding arrive_in arrive_of decode_of
  arrives b v w q l ev ew eq = rw (eq, ew, ev, passes r p, lt-ltb (at r 81) 80 l)

  pub drops : (b : ℕ) (q : List ℕ) → 80 ≤ at r 81 → q ≡ encode_of (counted (decode_of r)) → served 7 0 0 q ≡ arrive_in r f b
  unfolding arrive_in arrive_of decode_of
  drops b q l eq = rw (eq, passes r p, le-ltb (at r 81) 80 l)

  pub takes_none : at r 81 ≡ 0 → Bytes r → served 6 0 0 r ≡ take_in r f
  unfolding take_in take_of decode_of
  takes_none l b = rw (passes r p, eq-eqb (at r 81) 0 l, rewritten r b p)

  pub takes : (b : ℕ) (v w : Watermark) (q : List ℕ) → (at r 81 ≡ 0 → ⊥) → v ≡ low_water f.empty (eqb (at r 82) 1) (at r 81 - 1) → w ≡ while_on f v
      → b ≡ oldest (decode_of r) → q ≡ encode_of (advanced (decode_of r) w.mark) → served 0 b w.signal q ≡ take_in r f
  unfolding take_in take_of decode_of
  takes b v w q l ev ew eb eq = rw (eq, eb, ew, ev, passes r p, ne_eqb (at r 81) 0 l)
