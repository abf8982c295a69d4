-- A write of a bar: it changes only what differs, it leads from full picture to full picture, and it keeps to the rectangle.
-- Assumes nothing.
use mathlib.Core.Path.{◌≡◌, refl, sym, ◌∙◌}
use mathlib.Core.Logic.{◌≢◌}
use mathlib.Core.Bool.{Bool, true, false, cond, ◌&&◌, false≢true, and-false}
use mathlib.Core.List.{List}
use Prim.Native.Nat.{ℕ, ◌≤◌}
use native.Mathlib.Omega.{arith}
use native.Mathlib.Decide.{dec_lt}
use lib.Dec.{eqb, ltb}
use lib.ListN.{length}
use borrow.Author.Tests.{lt-ltb, le-ltb, ltb-true, ltb-false, ne_eqb, eqb-true}
use Rattle.pixels.specs.Framebuffer.{Region, Picture, On, pixel, put, plain, fill}
use Rattle.pixels.specs.Regions.{within}
use Rattle.pixels.proofs.Tests.{by_test}
use Rattle.pixels.proofs.Intervals.{within_yes, within_before, within_after}
use Rattle.pixels.proofs.Painting.{length-repaint, pixel_put}
use Rattle.pixels.specs.Footprints.{SameOutside}
use Rattle.pixels.proofs.Footprint.{outside_in, outside_put}
use Rattle.bar_graph.specs.declared.Bar.{Bar}
use Rattle.bar_graph.specs.Bars.{rectangle_of, depth, held_to, full_picture, stripe, write_of, written_bar, Shows}

-- ---- one pixel: r whether it is in the rectangle, d its depth, a the old value, e the new one, o what it was

stays : (r : Bool) (a e d : ℕ) (c o : Bool) → (r && ltb d a) ≡ (r && ltb d e) → cond (r && within a e d) c o ≡ o
stays false a e d c o h = refl
stays true a e d c o h =
    elim (dec_lt d a) [
      | yes l ↦ rw (within_before a e d l)
      | no l ↦ (elim (dec_lt d e) [
        | yes m ↦ absurd (false≢true (sym (le-ltb d a (omega arith)) ∙ h ∙ lt-ltb d e m))
        | no m ↦ rw (within_after a e d (omega arith))
      ])
    ]

grows : (r : Bool) (a e d : ℕ) (o : Bool) → r ≡ true → a ≤ e → o ≡ (r && ltb d a) → cond (r && within a e d) true o ≡ (r && ltb d e)
grows false a e d o r h q = absurd (false≢true r)
grows true a e d o r h q =
    elim (dec_lt d a) [
      | yes l ↦ rw (q, within_before a e d l, lt-ltb d a l, lt-ltb d e (omega arith))
      | no l ↦ (elim (dec_lt d e) [
        | yes m ↦ rw (within_yes a e d (omega arith) m, lt-ltb d e m)
        | no m ↦ rw (q, within_after a e d (omega arith), le-ltb d a (omega arith), le-ltb d e (omega arith))
      ])
    ]

shrinks : (r : Bool) (a e d : ℕ) (o : Bool) → r ≡ true → e ≤ a → o ≡ (r && ltb d a) → cond (r && within e a d) false o ≡ (r && ltb d e)
shrinks false a e d o r h q = absurd (false≢true r)
shrinks true a e d o r h q =
    elim (dec_lt d e) [
      | yes l ↦ rw (q, within_before e a d l, lt-ltb d a (omega arith), lt-ltb d e l)
      | no l ↦ (elim (dec_lt d a) [
        | yes m ↦ rw (within_yes e a d (omega arith) m, le-ltb d e (omega arith))
        | no m ↦ rw (q, within_after e a d (omega arith), le-ltb d a (omega arith), le-ltb d e (omega arith))
      ])
    ]

-- ---- a write of another value than 0, of any bar, whatever the framebuffer showed

pub write_same : (b : Bar) (v : ℕ) (g : List ℕ) (x y : ℕ) → v ≢ 0 → On (length g) x y
    → full_picture b b.value x y ≡ full_picture b (held_to b v) x y → pixel (write_of b v g) x y ≡ pixel g x y
unfolding write_of stripe full_picture
write_same b v g x y z on e =
    rw (ne_eqb v 0 z) (by_test (λ h. pixel h x y ≡ pixel g x y) (ltb b.value (held_to b v)) _ _
    (λ _. pixel_put (stripe b b.value (held_to b v)) (plain true) g x y on
    ∙ stays (rectangle_of b x y) b.value (held_to b v) (depth b x y) true (pixel g x y) e)
    (λ _. pixel_put (stripe b (held_to b v) b.value) (plain false) g x y on
    ∙ stays (rectangle_of b x y) (held_to b v) b.value (depth b x y) false (pixel g x y) (sym e)))

-- A CHANGED PIXEL IS ONE IN WHICH THE FULL PICTURES OF OLD AND NEW DIFFER
pub write_changes : (b : Bar) (v : ℕ) (g : List ℕ) (x y : ℕ) → v ≢ 0 → On (length g) x y
    → pixel (write_of b v g) x y ≢ pixel g x y → full_picture b b.value x y ≢ full_picture b (held_to b v) x y
write_changes b v g x y z on n e = n (write_same b v g x y z on e)

-- ---- the rectangle of a bar shows the full picture of a value

shows_put : (b : Bar) (v : ℕ) (s : Region) (p : Picture) (g : List ℕ)
    → ((x y : ℕ) → On (length g) x y → rectangle_of b x y ≡ true → cond (s x y) (p x y) (pixel g x y) ≡ full_picture b v x y)
    → Shows b v (put s p g)
shows_put b v s p g h =
    record { pixels = λ x y on r. let o : On (length g) x y = rw (length-repaint (λ x y o. cond (s x y) (p x y) o) g) at on in pixel_put s p g x y o ∙ h x y o r }

white : (b : Bar) (v x y : ℕ) → v ≡ 0 → full_picture b v x y ≡ false
unfolding full_picture
white b v x y z = rw (z, le-ltb (depth b x y) 0 (omega arith)) (and-false (rectangle_of b x y))

whitened : (b : Bar) (v : ℕ) (g : List ℕ) → v ≡ 0 → Shows b v (fill (rectangle_of b) false g)
whitened b v g z = shows_put b v (rectangle_of b) (plain false) g (λ x y on r. rw (r, white b v x y z))

held_zero : (b : Bar) (v : ℕ) → v ≡ 0 → held_to b v ≡ 0
unfolding held_to
held_zero b v z = omega arith

-- A WRITE OF 0 SHOWS THE FULL PICTURE OF 0, WHATEVER WAS SHOWN
pub zero_shows : (b : Bar) (g : List ℕ) → Shows b 0 (write_of b 0 g)
unfolding write_of
zero_shows b g = whitened b 0 g refl

-- WHERE THE OLD VALUE IS SHOWN, ANY WRITE SHOWS THE NEW ONE
pub write_shows : (b : Bar) (v : ℕ) (g : List ℕ) → Shows b b.value g → Shows b (held_to b v) (write_of b v g)
unfolding write_of stripe full_picture
write_shows b v g h =
    by_test (Shows b (held_to b v)) (eqb v 0) _ _
    (λ z. whitened b (held_to b v) g (held_zero b v (eqb-true v 0 z)))
    (λ _. by_test (Shows b (held_to b v)) (ltb b.value (held_to b v)) _ _
    (λ l. shows_put b (held_to b v) (stripe b b.value (held_to b v)) (plain true) g (λ x y on r.
    grows (rectangle_of b x y) b.value (held_to b v) (depth b x y) (pixel g x y) r (omega (arith, ltb-true b.value (held_to b v) l)) (h.pixels x y on r)))
    (λ l. shows_put b (held_to b v) (stripe b (held_to b v) b.value) (plain false) g (λ x y on r.
    shrinks (rectangle_of b x y) b.value (held_to b v) (depth b x y) (pixel g x y) r (ltb-false b.value (held_to b v) l) (h.pixels x y on r))))

-- and the bar that is given back is one whose value is shown
pub write_keeps : (b : Bar) (v : ℕ) (g : List ℕ) → Shows b b.value g → Shows (written_bar b v) (written_bar b v).value (write_of b v g)
unfolding full_picture depth
write_keeps b v g h = record { pixels = (write_shows b v g h).pixels }

-- NO PIXEL OUTSIDE THE RECTANGLE CHANGES
pub write_outside : (b : Bar) (v : ℕ) (g : List ℕ) → SameOutside (rectangle_of b) g (write_of b v g)
unfolding write_of stripe
write_outside b v g =
    by_test (SameOutside (rectangle_of b) g) (eqb v 0) _ _ (λ _. outside_put (rectangle_of b) (plain false) g)
    (λ _. by_test (SameOutside (rectangle_of b) g) (ltb b.value (held_to b v)) _ _
    (λ _. outside_in (rectangle_of b) (stripe b b.value (held_to b v)) (plain true) g (λ x y e. rw e))
    (λ _. outside_in (rectangle_of b) (stripe b (held_to b v) b.value) (plain false) g (λ x y e. rw e)))
