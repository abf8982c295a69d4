-- One step: what obeys its event keeps the ledger right.
-- Assumes nothing.
use mathlib.Core.Path.{◌≡◌, refl, sym, ap, ◌∙◌}
use mathlib.Core.Bool.{Bool, true, false, cond, not, ◌||◌, false≢true}
use mathlib.Core.List.{List}
use mathlib.Core.Logic.{◌≢◌}
use Prim.Native.Nat.{ℕ, min}
use native.Mathlib.Omega.{arith}
use lib.Dec.{eqb}
use lib.ListN.{length}
use borrow.Author.Tests.{eqb-true, not-true}
use Rattle.pixels.specs.Framebuffer.{Region, On, pixel}
use Rattle.pixels.specs.Footprints.{SameOutside}
use Rattle.pixels.proofs.Tests.{by_test, and_one, and_two}
use Rattle.pixels.proofs.Touch.{touches_no}
use Rattle.pixels.proofs.Footprint.{outside_none}
use Rattle.bar_graph.specs.declared.Bar.{Bar}
use Rattle.bar_graph.specs.Bars.{rectangle_of, depth, length_of, held_to, full_picture, with_value, written_bar, write_of, Shows}
use Rattle.bar_graph.proofs.Writes.{zero_shows, write_shows, write_outside}
use Rattle.bar_ledger.specs.Ledger.{View, Event, quiet, set_up, wrote, painted, Entry, entry, Ledger, reaches, touched, written, recorded, footprint}

-- what an event does to bar i
unfoldable pub bar_by : Event → View → ℕ → Bar
bar_by quiet v i = v.bar i
bar_by (set_up n b) v i = cond (eqb i n) b (v.bar i)
bar_by (wrote n a) v i = cond (eqb i n) (written_bar (v.bar n) a) (v.bar i)
bar_by (painted f) v i = v.bar i

-- and what it asks of the framebuffer: a write is the write of the rules, and anything else keeps to its footprint
abbrev pub Paints : Event → View → View → Type 0
Paints quiet v w = w.framebuffer ≡ v.framebuffer
Paints (set_up n b) v w = w.framebuffer ≡ v.framebuffer
Paints (wrote n a) v w = w.framebuffer ≡ write_of (v.bar n) a v.framebuffer
Paints (painted f) v w = SameOutside f v.framebuffer w.framebuffer

pub record Obeys (e : Event) (v w : View) : Type 0 where
  pub paints : Paints e v w
  pub bars : (i : ℕ) → w.bar i ≡ bar_by e v i

-- no pixel outside the footprint changes
pub keeps_out : (e : Event) (v w : View) → Obeys e v w → SameOutside (footprint e v) v.framebuffer w.framebuffer
unfolding footprint
keeps_out quiet v w o = rw o.paints (outside_none _ v.framebuffer)
keeps_out (set_up n b) v w o = rw o.paints (outside_none _ v.framebuffer)
keeps_out (wrote n a) v w o = rw o.paints (write_outside (v.bar n) a v.framebuffer)
keeps_out (painted f) v w o = o.paints

-- an entry is right: it is the bar, and where it is known the rectangle shows it
pub record Right (v : View) (i : ℕ) (e : Entry) : Type 0 where
  pub same : e.bar ≡ v.bar i
  pub shows : e.known ≡ true → Shows e.bar e.bar.value v.framebuffer

abbrev pub Holds : View → Ledger → Type 0
Holds v k = (i : ℕ) → Right v i (k i)

shows_untouched : (f : Region) (b : Bar) (n : ℕ) (g h : List ℕ) → SameOutside f g h → reaches f b ≡ false → Shows b n g → Shows b n h
shows_untouched f b n g h s t p =
    record {
      pixels = λ x y on r. let o : On (length g) x y = rw s.long at on in
          s.same x y o (touches_no f b.x1 b.y1 b.x2 b.y2 t x y r) ∙ p.pixels x y o r;
    }

-- a footprint that misses the rectangle leaves a known bar known, and rightly
right_touched : (f : Region) (v w : View) (i : ℕ) (e : Entry) → SameOutside f v.framebuffer w.framebuffer → w.bar i ≡ v.bar i → Right v i e → Right w i (touched f e)
unfolding touched
right_touched f v w i e s q h =
    record {
      same = h.same ∙ sym q;
      shows = λ u. shows_untouched f e.bar e.bar.value v.framebuffer w.framebuffer s
          (not-true (reaches f e.bar) (and_two e.known (not (reaches f e.bar)) u)) (h.shows (and_one e.known _ u));
    }

right_same : (v w : View) (i : ℕ) (e : Entry) → w.framebuffer ≡ v.framebuffer → w.bar i ≡ v.bar i → Right v i e → Right w i e
right_same v w i e g q h = record { same = h.same ∙ sym q; shows = λ u. rw g (h.shows u) }

-- a bar's value has no part in its rectangle and its pictures
shows_value : (b : Bar) (m n : ℕ) (g : List ℕ) → Shows b n g → Shows (with_value b m) n g
unfolding full_picture depth
shows_value b m n g h = record { pixels = h.pixels }

zero_written : (b : Bar) (a : ℕ) (g : List ℕ) → a ≡ 0 → Shows b (held_to b a) (write_of b a g)
unfolding held_to
zero_written b a g e = let z : min 0 (length_of b) ≡ 0 = omega arith in rw (e, z) (zero_shows b g)

right_written : (v w : View) (i a : ℕ) (e : Entry) → w.framebuffer ≡ write_of (v.bar i) a v.framebuffer → w.bar i ≡ written_bar (v.bar i) a → Right v i e → Right w i (written a e)
unfolding written
right_written v w i a e g q h =
    record {
      same = ap (λ (b : Bar). written_bar b a) h.same ∙ sym q;
      shows = λ u. shows_value e.bar (held_to e.bar a) (held_to e.bar a) w.framebuffer (rw (g, ← h.same) (wide (eqb a 0) e.known refl refl u));
    }
  where
    wide : (z s : Bool) → eqb a 0 ≡ z → e.known ≡ s → (z || s) ≡ true → Shows e.bar (held_to e.bar a) (write_of e.bar a v.framebuffer)
    wide true s z t u = zero_written e.bar a v.framebuffer (eqb-true a 0 z)
    wide false s z t u = write_shows e.bar a v.framebuffer (h.shows (t ∙ u))

pub keeps : (e : Event) (v w : View) (k : Ledger) → Obeys e v w → Holds v k → Holds w (recorded e k)
unfolding recorded bar_by
keeps quiet v w k o h i = right_same v w i (k i) o.paints (o.bars i) (h i)
keeps (set_up n b) v w k o h i =
    by_test (Right w i) (eqb i n) _ _ (λ t. record { same = sym (o.bars i ∙ rw t); shows = λ u. absurd (false≢true u) })
    (λ t. right_same v w i (k i) o.paints (o.bars i ∙ rw t) (h i))
keeps (wrote n a) v w k o h i =
    by_test (Right w i) (eqb i n) _ _
    (λ t. let q : n ≡ i = sym (eqb-true i n t) in right_written v w i a (k i) (o.paints ∙ rw q) (o.bars i ∙ rw (t, q)) (h i))
    (λ t. right_touched (rectangle_of (k n).bar) v w i (k i) (rw (o.paints, (h n).same) (write_outside (v.bar n) a v.framebuffer)) (o.bars i ∙ rw t) (h i))
keeps (painted f) v w k o h i = right_touched f v w i (k i) o.paints (o.bars i) (h i)
