-- Where a byte of data in line lies, and which columns of a row it is.
-- Assumes nothing.
use mathlib.Core.Path.{◌≡◌, refl, ap, ◌∙◌}
use mathlib.Core.Bool.{Bool, true, false, ◌&&◌, and-false}
use mathlib.Core.List.{List}
use Prim.Native.Nat.{ℕ, ◌+◌, ◌-◌, ◌*◌, ◌/◌, ◌%◌, ◌<◌, ◌≤◌, min}
use native.Mathlib.Omega.{arith}
use native.Mathlib.Nat.{mod-lt}
use native.Mathlib.Decide.{ℕ_discrete}
use lib.Dec.{eqb}
use lib.ListN.{length}
use borrow.Author.Tests.{eq-eqb, ne_eqb, eqb-true}
use borrow.Rule.Slice.PartMut.{put_mid, mid_of}
use Rattle.pixels.specs.Framebuffer.{put}
use Rattle.pixels.specs.Regions.{within, span, rectangle}
use Rattle.pixels.proofs.Tests.{iff, and_one, and_two}
use Rattle.pixels.proofs.Pictures.{Bytes}
use Rattle.pixels.proofs.Painting.{put_region, put_off}
use Rattle.pixels.proofs.Intervals.{within_iff, within_true, within_yes, within_none, within_after, within_one}
use Rattle.pixels.proofs.Rows.{rows_put}
use Rattle.spans.specs.Bits.{bits_from}
use Rattle.bitmap.specs.Inline.{PlaceIs}
use Rattle.bitmap.specs.Bitmaps.{row_bytes, inline_column, inline_row, inline_pixels, inline_bits, inline_byte}

pub across_in : (a b k : ℕ) → 8 * (k % ((b - a) / 8 + 1)) ≤ b - a
across_in a b k = omega (arith, mod-lt k {m = (b - a) / 8 + 1} (omega arith))

-- the place of byte k of a rectangle whose rows have n bytes
pub place_is : (x1 y1 x2 k n : ℕ) → x1 ≤ x2 → n ≡ (x2 - x1) / 8 + 1 → PlaceIs x1 y1 x2 k (record { x = x1 + 8 * (k % n); y = y1 + k / n })
place_is x1 y1 x2 k n h en =
    let e : n ≡ row_bytes x1 x2 = omega arith in
    record { column = rw e; row = rw e; inside = rw en (omega (arith, across_in x1 x2 k)) }

-- a byte on row y, which is lent by itself
pub byte_lent : (x e y b from to : ℕ) (g h : List ℕ) → Bytes g → from ≡ min (30 * y) (length g) → to ≡ min (30 * y + 30) (length g)
    → h ≡ put (span x e 0) (bits_from x b) (mid_of from (to - from) g) → put_mid from (to - from) g h ≡ put (span x e y) (bits_from x b) g
unfolding bits_from
byte_lent x e y b from to g h bs ef et d =
    ap (put_mid from (to - from) g) d ∙ rows_put g y (y + 1) from to ef (omega arith) (span x e 0) (bits_from x b) bs
    ∙ put_region (λ u v. span x e 0 u (v - y) && within y (y + 1) v) (span x e y) (bits_from x b) g
    (λ u v on. elim (ℕ_discrete v y) [
      | yes q ↦ (let z : v - y ≡ 0 = omega arith in rw (within_yes y (y + 1) v (omega arith) (omega arith), z, eq-eqb v y q) (and_one_more (within x e u)))
      | no q ↦ rw (within_one y v, ne_eqb v y q, and-false, and-false)
    ])
  where
    and_one_more : (t : Bool) → ((t && true) && true) ≡ (t && true)
    and_one_more true = refl
    and_one_more false = refl

-- row y, columns x up to e
module _ (x1 y1 x2 y2 k b : ℕ) (g h : List ℕ) (x y e : ℕ) (ex : x ≡ inline_column x1 x2 k) (ey : y ≡ inline_row x1 y1 x2 k) where
  pub inline_painted : e ≡ min (x + 8) (x2 + 1) → y ≤ y2 → h ≡ put (span x e y) (bits_from x b) g → h ≡ inline_byte x1 y1 x2 y2 k b g
  unfolding inline_pixels inline_bits bits_from
  inline_painted ee l q =
      q ∙ rw (← ex, ← ey) (put_region (span x e y) (λ u v. rectangle x1 y1 x2 y2 u v && span x (x + 8) y u v) (bits_from x b) g
      (λ u v on. iff (span x e y u v) (rectangle x1 y1 x2 y2 u v && span x (x + 8) y u v) (there u v) (back u v)))
    where
      there : (u v : ℕ) → span x e y u v ≡ true → (rectangle x1 y1 x2 y2 u v && span x (x + 8) y u v) ≡ true
      there u v t =
          let p = within_true x e u (and_one (within x e u) (eqb v y) t) in
          let r = eqb-true v y (and_two (within x e u) (eqb v y) t) in
          rw (within_yes x1 (x2 + 1) u (omega arith) (omega arith), within_yes y1 (y2 + 1) v (omega arith) (omega arith), within_yes x (x + 8) u (omega arith) (omega arith), eq-eqb v y r)

      back : (u v : ℕ) → (rectangle x1 y1 x2 y2 u v && span x (x + 8) y u v) ≡ true → span x e y u v ≡ true
      back u v t =
          let c = and_one (rectangle x1 y1 x2 y2 u v) (span x (x + 8) y u v) t in
          let d = and_two (rectangle x1 y1 x2 y2 u v) (span x (x + 8) y u v) t in
          let p = within_true x1 (x2 + 1) u (and_one (within x1 (x2 + 1) u) (within y1 (y2 + 1) v) c) in
          let r = within_true x (x + 8) u (and_one (within x (x + 8) u) (eqb v y) d) in
          rw (within_yes x e u (omega arith) (omega arith), eq-eqb v y (eqb-true v y (and_two (within x (x + 8) u) (eqb v y) d)))

  -- a byte behind the last row
  pub inline_below : Bytes g → y2 < y → g ≡ inline_byte x1 y1 x2 y2 k b g
  unfolding inline_pixels
  inline_below bs l =
      put_off (inline_pixels x1 y1 x2 y2 k) (inline_bits x1 x2 k b) g bs
      (λ u v on. rw (← ex, ← ey) (elim (ℕ_discrete v y) [
        | yes q ↦ rw (within_after y1 (y2 + 1) v (omega arith), and-false)
        | no q ↦ rw (ne_eqb v y q, and-false, and-false)
      ]))

-- corners out of order: nothing
pub inline_none : (x1 y1 x2 y2 k b : ℕ) (g : List ℕ) → Bytes g → x2 < x1 → g ≡ inline_byte x1 y1 x2 y2 k b g
unfolding inline_pixels
inline_none x1 y1 x2 y2 k b g bs l =
    put_off (inline_pixels x1 y1 x2 y2 k) (inline_bits x1 x2 k b) g bs (λ u v on. rw (within_iff x1 (x2 + 1) u 0 0 u (omega arith) (omega arith), within_none 0 u))
