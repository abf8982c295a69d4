-- EVERY BYTE OBEYS ITS EVENT: one clause for each command. And what is done keeps the refusals and the numbers of bars and strips.
-- Assumes nothing.
use mathlib.Core.Path.{◌≡◌, refl}
use mathlib.Core.Bool.{Bool, true, false, cond}
use mathlib.Core.List.{List, []}
use Prim.Native.Nat.{ℕ, ◌<◌}
use native.Mathlib.Decide.{ℕ_discrete}
use lib.Dec.{eqb}
use lib.ListN.{length, get_or, set, length-set}
use lib.Seq.{get_or-set_same, get_or-set_other}
use borrow.Author.Tests.{eq-eqb, ne_eqb}
use Rattle.pixels.specs.Framebuffer.{Region}
use Rattle.pixels.specs.Footprints.{SameOutside}
use Rattle.pixels.proofs.Tests.{by_test}
use Rattle.bar_graph.specs.declared.Bar.{Bar}
use Rattle.bar_graph.specs.Bars.{write_of, written_bar}
use Rattle.bar_ledger.specs.Ledger.{Event, quiet, set_up, wrote, painted}
use Rattle.bar_ledger.proofs.Keep.{Obeys, bar_by}
use Rattle.state.specs.declared.BarSlot.{BarSlot}
use Rattle.state.specs.State.{no_bar, bar_slot, bar_at, with_bars}
use Rattle.rules.specs.World.{World, port, panel, with_framebuffer, with_panel, Outcome, done, refused, refuse_if}
use Rattle.rules.specs.Events.{view}

-- v comes of w by the event e
pub record Fair (w : World) (e : Event) (v : World) : Type 0 where
  pub obeys : Obeys e (view w) (view v)
  pub bars : length (panel v).bars ≡ length (panel w).bars
  pub strips : length (panel v).strips ≡ length (panel w).strips
  pub refusals : (port v).refusals ≡ (port w).refusals

-- an outcome comes of w by the event e, unless it is a refusal
abbrev pub Obeying : World → Event → Outcome → Type 0
Obeying w e (done v r) = Fair w e v
Obeying w e (refused n r) = Unit {0}

-- a reason to refuse stands before
pub passes : (w : World) (e : Event) (bad : Bool) (n : ℕ) (o : Outcome) → (bad ≡ false → Obeying w e o) → Obeying w e (refuse_if bad n o)
passes w e bad n o f = by_test (Obeying w e) bad (refused n []) o (λ _. tt) f

-- bars as they were, and as many strips; the framebuffer keeps to a footprint, or stays
module _ (w v : World) (same : (panel v).bars ≡ (panel w).bars) (many : length (panel v).strips ≡ length (panel w).strips)
    (counts : (port v).refusals ≡ (port w).refusals) where
  pub fair_painted : (f : Region) → SameOutside f w.framebuffer v.framebuffer → Fair w (painted f) v
  unfolding bar_by
  fair_painted f s = record { obeys = record { paints = s; bars = λ i. rw same }; bars = rw same; strips = many; refusals = counts }

  pub fair_quiet : v.framebuffer ≡ w.framebuffer → Fair w quiet v
  unfolding bar_by
  fair_quiet s = record { obeys = record { paints = s; bars = λ i. rw same }; bars = rw same; strips = many; refusals = counts }

-- ---- one bar put anew

slot_at : (l : List BarSlot) (n i : ℕ) (s : BarSlot) → n < length l → (get_or (set l n s) i no_bar).bar ≡ cond (eqb i n) s.bar (get_or l i no_bar).bar
slot_at l n i s h =
    elim (ℕ_discrete i n) [
      | yes e ↦ rw (e, eq-eqb n n refl, get_or-set_same l n s no_bar h)
      | no e ↦ rw (ne_eqb i n e, get_or-set_other l n i s no_bar e)
    ]

module _ (w : World) (n : ℕ) (h : n < length (panel w).bars) where
  pub fair_set_up : (b : Bar) → Fair w (set_up n b) (with_panel w (with_bars (panel w) (set (panel w).bars n (bar_slot true b))))
  unfolding bar_by
  fair_set_up b =
      record {
        obeys = record { paints = refl; bars = λ i. slot_at (panel w).bars n i (bar_slot true b) h };
        bars = length-set (panel w).bars n (bar_slot true b);
        strips = refl;
        refusals = refl;
      }

  pub fair_wrote : (a : ℕ) → Fair w (wrote n a)
      (with_panel (with_framebuffer w (write_of (bar_at (panel w) n).bar a w.framebuffer)) (with_bars (panel w) (set (panel w).bars n (bar_slot true (written_bar (bar_at (panel w) n).bar a)))))
  unfolding bar_by
  fair_wrote a =
      record {
        obeys = record { paints = refl; bars = λ i. slot_at (panel w).bars n i (bar_slot true (written_bar (bar_at (panel w) n).bar a)) h };
        bars = length-set (panel w).bars n (bar_slot true (written_bar (bar_at (panel w) n).bar a));
        strips = refl;
        refusals = refl;
      }
