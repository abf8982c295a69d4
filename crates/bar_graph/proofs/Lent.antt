-- A write that is lent the rows of its bar, and paints the bar raised to row 0, has written the bar.
-- Assumes nothing.
use mathlib.Core.Path.{◌≡◌, sym, ◌∙◌, subst}
use mathlib.Core.Bool.{Bool, true, false, cond, ◌&&◌, and-false, and-true}
use mathlib.Core.List.{List}
use Prim.Native.Nat.{ℕ, ◌+◌, ◌-◌, ◌<◌, ◌≤◌}
use native.Mathlib.Omega.{arith}
use native.Mathlib.Decide.{dec_lt}
use lib.Dec.{eqb, ltb}
use lib.ListN.{length}
use borrow.Rule.Slice.PartMut.{put_mid, mid_of}
use Rattle.pixels.specs.Framebuffer.{Region, put, plain}
use Rattle.pixels.specs.Regions.{within}
use Rattle.pixels.proofs.Pictures.{Bytes}
use Rattle.pixels.proofs.Painting.{put_region, put_off}
use Rattle.pixels.proofs.Intervals.{within_yes, within_before, within_after}
use Rattle.pixels.proofs.Rows.{rows_put}
use Rattle.canvas.specs.declared.Rows.{Rows}
use Rattle.canvas.specs.Canvas.{RowsAre}
use Rattle.bar_graph.specs.declared.Bar.{Bar}
use Rattle.bar_graph.specs.Bars.{rectangle_of, depth, length_of, held_to, stripe, write_of}
use Rattle.bar_graph.specs.Raised.{raised_of}

-- its length, and so its values, stay
held_raised : (b : Bar) (v : ℕ) → b.y1 ≤ b.y2 → held_to (raised_of b) v ≡ held_to b v
unfolding held_to length_of
held_raised b v h = let z : b.y2 - b.y1 + 1 - 0 ≡ b.y2 + 1 - b.y1 = omega arith in rw z

-- inside its rows, a pixel of the one is that pixel of the other
module _ (b : Bar) (x y : ℕ) (lo : b.y1 ≤ y) (hi : y ≤ b.y2) where
  rectangle_inside : rectangle_of (raised_of b) x (y - b.y1) ≡ rectangle_of b x y
  rectangle_inside = rw (within_yes 0 (b.y2 - b.y1 + 1) (y - b.y1) (omega arith) (omega arith), within_yes b.y1 (b.y2 + 1) y lo (omega arith))

  depth_inside : depth (raised_of b) x (y - b.y1) ≡ depth b x y
  unfolding depth
  depth_inside = let p : b.y2 - b.y1 - (y - b.y1) ≡ b.y2 - y = omega arith in let q : y - b.y1 - 0 ≡ y - b.y1 = omega arith in rw (p, q)

outside : (b : Bar) (x y : ℕ) → within b.y1 (b.y2 + 1) y ≡ false → rectangle_of b x y ≡ false
outside b x y e = rw (e, and-false)

-- seen from the framebuffer
module _ (b : Bar) (s t : Region) (inside : (x y : ℕ) → b.y1 ≤ y → y ≤ b.y2 → t x (y - b.y1) ≡ s x y)
    (off : (x y : ℕ) → rectangle_of b x y ≡ false → s x y ≡ false) where
  seen : (x y : ℕ) → (t x (y - b.y1) && within b.y1 (b.y2 + 1) y) ≡ s x y
  seen x y =
      elim (dec_lt y b.y1) [
        | yes p ↦ (let w = within_before b.y1 (b.y2 + 1) y p in rw (w, and-false) (sym (off x y (outside b x y w))))
        | no p ↦ (elim (dec_lt b.y2 y) [
          | yes q ↦ (let w = within_after b.y1 (b.y2 + 1) y (omega arith) in rw (w, and-false) (sym (off x y (outside b x y w))))
          | no q ↦ rw (within_yes b.y1 (b.y2 + 1) y (omega arith) (omega arith), and-true) (inside x y (omega arith) (omega arith))
        ])
      ]

  lent : (c : Bool) (g : List ℕ) (r : Rows) → Bytes g → RowsAre (length g) b.y1 (b.y2 + 1) r
      → put_mid r.from (r.to - r.from) g (put t (plain c) (mid_of r.from (r.to - r.from) g)) ≡ put s (plain c) g
  lent c g r k a =
      rows_put g b.y1 (b.y2 + 1) r.from r.to a.from_is a.to_is t (plain c) k
      ∙ put_region (λ x y. t x (y - b.y1) && within b.y1 (b.y2 + 1) y) s (plain c) g (λ x y on. seen x y)

stripe_off : (b : Bar) (a e x y : ℕ) → rectangle_of b x y ≡ false → stripe b a e x y ≡ false
unfolding stripe
stripe_off b a e x y h = rw h

stripe_inside : (b : Bar) (a e x y : ℕ) → b.y1 ≤ y → y ≤ b.y2 → stripe (raised_of b) a e x (y - b.y1) ≡ stripe b a e x y
unfolding stripe
stripe_inside b a e x y h k = rw (rectangle_inside b x y h k, depth_inside b x y h k)

pub write_lent : (b : Bar) (v : ℕ) (g h : List ℕ) (z : Bar) (r : Rows) (p q : ℕ) → Bytes g → b.y1 ≤ b.y2 → p ≡ b.y1 → q ≡ b.y2 → z ≡ raised_of b
    → RowsAre (length g) p (q + 1) r → h ≡ write_of z v (mid_of r.from (r.to - r.from) g) → put_mid r.from (r.to - r.from) g h ≡ write_of b v g
unfolding write_of
write_lent b v g h z r p q k o ep eq ez s e =
    rw (e, ez, held_raised b v o) (by_zero (eqb v 0))
  where
    a : RowsAre (length g) b.y1 (b.y2 + 1) r
    a = subst (λ (i : ℕ). RowsAre (length g) i (b.y2 + 1) r) ep (subst (λ (i : ℕ). RowsAre (length g) p (i + 1) r) eq s)

    whole : (c : Bool) → put_mid r.from (r.to - r.from) g (put (rectangle_of (raised_of b)) (plain c) (mid_of r.from (r.to - r.from) g)) ≡ put (rectangle_of b) (plain c) g
    whole c = lent b (rectangle_of b) (rectangle_of (raised_of b)) (rectangle_inside b) (λ x y q. q) c g r k a

    part : (c : Bool) (i j : ℕ) → put_mid r.from (r.to - r.from) g (put (stripe (raised_of b) i j) (plain c) (mid_of r.from (r.to - r.from) g)) ≡ put (stripe b i j) (plain c) g
    part c i j = lent b (stripe b i j) (stripe (raised_of b) i j) (stripe_inside b i j) (stripe_off b i j) c g r k a

    by_more : (t : Bool) → put_mid r.from (r.to - r.from) g (cond t (put (stripe (raised_of b) b.value (held_to b v)) (plain true) (mid_of r.from (r.to - r.from) g)) (put (stripe (raised_of b) (held_to b v) b.value) (plain false) (mid_of r.from (r.to - r.from) g)))
        ≡ cond t (put (stripe b b.value (held_to b v)) (plain true) g) (put (stripe b (held_to b v) b.value) (plain false) g)
    by_more true = part true b.value (held_to b v)
    by_more false = part false (held_to b v) b.value

    by_zero : (t : Bool) → put_mid r.from (r.to - r.from) g (cond t (put (rectangle_of (raised_of b)) (plain false) (mid_of r.from (r.to - r.from) g)) (cond (ltb b.value (held_to b v)) (put (stripe (raised_of b) b.value (held_to b v)) (plain true) (mid_of r.from (r.to - r.from) g)) (put (stripe (raised_of b) (held_to b v) b.value) (plain false) (mid_of r.from (r.to - r.from) g))))
        ≡ cond t (put (rectangle_of b) (plain false) g) (cond (ltb b.value (held_to b v)) (put (stripe b b.value (held_to b v)) (plain true) g) (put (stripe b (held_to b v) b.value) (plain false) g))
    by_zero true = whole false
    by_zero false = by_more (ltb b.value (held_to b v))

-- corners out of order leave a rectangle without a pixel
pub write_none : (b : Bar) (v : ℕ) (g : List ℕ) → Bytes g → b.y2 < b.y1 → g ≡ write_of b v g
unfolding write_of
write_none b v g k h = by_zero (eqb v 0)
  where
    none : (x y : ℕ) → rectangle_of b x y ≡ false
    none x y =
        elim (dec_lt y b.y1) [
          | yes p ↦ outside b x y (within_before b.y1 (b.y2 + 1) y p)
          | no p ↦ outside b x y (within_after b.y1 (b.y2 + 1) y (omega arith))
        ]

    by_more : (t : Bool) → g ≡ cond t (put (stripe b b.value (held_to b v)) (plain true) g) (put (stripe b (held_to b v) b.value) (plain false) g)
    by_more true = put_off (stripe b b.value (held_to b v)) (plain true) g k (λ x y on. stripe_off b _ _ x y (none x y))
    by_more false = put_off (stripe b (held_to b v) b.value) (plain false) g k (λ x y on. stripe_off b _ _ x y (none x y))

    by_zero : (t : Bool) → g ≡ cond t (put (rectangle_of b) (plain false) g) (cond (ltb b.value (held_to b v)) (put (stripe b b.value (held_to b v)) (plain true) g) (put (stripe b (held_to b v) b.value) (plain false) g))
    by_zero true = put_off (rectangle_of b) (plain false) g k (λ x y on. none x y)
    by_zero false = by_more (ltb b.value (held_to b v))
