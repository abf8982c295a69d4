-- Columns of one byte: the mask that has them, and the bits that come to them.
-- Assumes nothing.
use mathlib.Core.Path.{◌≡◌, refl, sym, ap, ◌∙◌}
use mathlib.Core.Bool.{Bool, true, false, cond, not, ◌&&◌, ◌||◌}
use mathlib.Core.List.{List}
use Prim.Native.Nat.{ℕ, ◌+◌, ◌-◌, ◌*◌, ◌/◌, ◌%◌, ◌^◌, ◌<◌, ◌≤◌}
use native.Mathlib.Omega.{arith}
use native.Mathlib.Decide.{dec_lt}
use lib.Dec.{eqb, leb, ltb}
use lib.Bits.{bit_and, bit_or, and_le_l, or_lt}
use lib.ListN.{length, get_or, set}
use lib.Pow.{shr-shr, shr_le}
use borrow.Author.Tests.{eq-eqb, eqb-true, lt-ltb, le-ltb, le-leb, lt-leb}
use Rattle.pixels.specs.Framebuffer.{On, cell, bit_of, put, width}
use Rattle.pixels.specs.Regions.{within, span}
use Rattle.pixels.proofs.Tests.{iff, and_one, and_two}
use Rattle.pixels.proofs.Bits.{byte_is, bit_or_lem, bit_and_lem, bit_not, bit_run}
use Rattle.pixels.proofs.Pictures.{Bytes}
use Rattle.pixels.proofs.Painting.{put_same, put_off}
use Rattle.pixels.proofs.Intervals.{within_true, within_yes, within_before, within_iff, within_none}
use Rattle.canvas.specs.Canvas.{masked}
use Rattle.canvas.proofs.Strokes.{set_masked, masked_off}
use Rattle.spans.specs.Bits.{blended_of, cell_bits, bits_from, cell_end}

-- ---- a byte blended with another

choose : (a b m : Bool) → ((a && not m) || (b && m)) ≡ cond m b a
choose true true true = refl
choose true true false = refl
choose true false true = refl
choose true false false = refl
choose false true true = refl
choose false true false = refl
choose false false true = refl
choose false false false = refl

pub blended_is : (a m b : ℕ) → a < 256 → m < 256 → b < 256 → bit_or (bit_and a (255 - m)) (bit_and b m) ≡ blended_of a m b
unfolding blended_of
blended_is a m b ha hm hb =
    byte_is (bit_or (bit_and a (255 - m)) (bit_and b m)) (λ j. cond (bit_of m j) (bit_of b j) (bit_of a j))
    (or_lt 8 (bit_and a (255 - m)) (bit_and b m) (omega (arith, and_le_l a (255 - m))) (omega (arith, and_le_l b m)))
    (λ j l. bit_or_lem (bit_and a (255 - m)) (bit_and b m) j ∙ rw (bit_and_lem a (255 - m) j, bit_and_lem b m j, bit_not m j hm l) (choose (bit_of a j) (bit_of b j) (bit_of m j)))

pub blend_on : (g : List ℕ) (i m b n : ℕ) → Bytes g → i < length g → n ≡ blended_of (get_or g i 0) m b → set g i n ≡ put (masked i m) (cell_bits b) g
unfolding cell_bits blended_of
blend_on g i m b n h l e = set_masked g i m n (bit_of b) h l e

pub blend_off : (g : List ℕ) (i m b : ℕ) → Bytes g → length g ≤ i → g ≡ put (masked i m) (cell_bits b) g
blend_off g i m b h l = masked_off g i m (cell_bits b) h l

-- ---- the end of a byte

pub end_in_byte : (x x2 e : ℕ) → e ≡ cell_end x x2 → e ≤ 8 * (x / 8) + 8
unfolding cell_end
end_in_byte x x2 e h = omega arith

-- columns that are in one byte end where they end
pub end_within : (x x2 : ℕ) → x2 ≤ 8 * (x / 8) + 8 → cell_end x x2 ≡ x2
unfolding cell_end
end_within x x2 h = omega arith

-- ---- the mask of columns s up to e of a byte

between : (s e j : ℕ) → (leb s j && not (leb e j)) ≡ within s e j
unfolding within
between s e j = rw (not_leb e j)
  where
    not_leb : (e j : ℕ) → not (leb e j) ≡ ltb j e
    not_leb e j = elim (dec_lt j e) [ yes l ↦ rw (lt-ltb j e l, lt-leb e j l) | no l ↦ rw (le-ltb j e (omega arith), le-leb e j (omega arith)) ]

pub right_lt : (e : ℕ) → 255 / 2 ^ e < 256
right_lt e = omega (arith, shr_le 255 e)

mask_bit : (s e j : ℕ) → s < 9 → e < 9 → j < 8 → bit_of (bit_and (255 / 2 ^ s) (255 - 255 / 2 ^ e)) j ≡ within s e j
mask_bit s e j hs he hj =
    bit_and_lem (255 / 2 ^ s) (255 - 255 / 2 ^ e) j ∙ rw (bit_run s j hs hj, bit_not (255 / 2 ^ e) j (right_lt e) hj, bit_run e j he hj) (between s e j)

shifted_bit : (b s j : ℕ) → s ≤ j → j < 8 → bit_of (b / 2 ^ s) j ≡ bit_of b (j - s)
unfolding bit_of
shifted_bit b s j h l = let t : s + (7 - j) ≡ 7 - (j - s) = omega arith in rw (shr-shr b s (7 - j), t)

-- ---- the columns painted

module _ (g g' : List ℕ) (x1 x2 y b i m s e : ℕ) (c-some : x1 < x2) (c-one : x2 ≤ 8 * (x1 / 8) + 8) (c-inside : x1 < width) (es : s ≡ x1 % 8) (ee : e ≡ x2 - (x1 - s)) (ei : i ≡ cell x1 y)
    (em : m ≡ bit_and (255 / 2 ^ s) (255 - 255 / 2 ^ e)) where
  bit : (u : ℕ) → bit_of m (u % 8) ≡ within s e (u % 8)
  bit u = rw em (mask_bit s e (u % 8) (omega arith) (omega (arith, c-one)) (omega arith))

  there : (u v : ℕ) → On (length g) u v → masked i m u v ≡ true → span x1 x2 y u v ≡ true
  there u v on t =
      let q = eqb-true (cell u v) i (and_one (eqb (cell u v) i) (bit_of m (u % 8)) t) in
      let r = within_true s e (u % 8) (sym (bit u) ∙ and_two (eqb (cell u v) i) (bit_of m (u % 8)) t) in
      rw (within_yes x1 x2 u (omega (arith, c-one, on.0, q)) (omega (arith, c-one, on.0, q)), eq-eqb v y (omega (arith, c-one, c-some, c-inside, on.0, q)))

  back : (u v : ℕ) → On (length g) u v → span x1 x2 y u v ≡ true → masked i m u v ≡ true
  back u v on t =
      let r = within_true x1 x2 u (and_one (within x1 x2 u) (eqb v y) t) in
      let q = eqb-true v y (and_two (within x1 x2 u) (eqb v y) t) in
      rw (eq-eqb (cell u v) i (omega (arith, c-one, ei)), bit u, within_yes s e (u % 8) (omega (arith, c-one)) (omega (arith, c-one)))

  pub cell_painted : g' ≡ put (masked i m) (cell_bits (b / 2 ^ s)) g → g' ≡ put (span x1 x2 y) (bits_from x1 b) g
  unfolding cell_bits bits_from
  cell_painted q =
      q ∙ put_same (masked i m) (span x1 x2 y) (λ u v. bit_of (b / 2 ^ s) (u % 8)) (λ u v. bit_of b (u - x1)) g
      (λ u v on. iff (masked i m u v) (span x1 x2 y u v) (there u v on) (back u v on))
      (λ u v on t. let p = within_true x1 x2 u (and_one (within x1 x2 u) (eqb v y) t) in
      let z : u % 8 - s ≡ u - x1 = omega (arith, c-one) in
      shifted_bit b s (u % 8) (omega (arith, c-one)) (omega arith) ∙ rw z)

-- none of them, or none on the framebuffer
pub cell_none : (g : List ℕ) (x e y b : ℕ) → Bytes g → e ≤ x → g ≡ put (span x e y) (bits_from x b) g
cell_none g x e y b h l = put_off (span x e y) (bits_from x b) g h (λ u v on. rw (within_iff x e u 0 0 u (omega arith) (omega arith), within_none 0 u))

pub cell_off : (g : List ℕ) (x e y b : ℕ) → Bytes g → width ≤ x → g ≡ put (span x e y) (bits_from x b) g
cell_off g x e y b h l = put_off (span x e y) (bits_from x b) g h (λ u v on. rw (within_before x e u (omega (arith, on.0))))

-- up to the end of the byte
pub part_painted : (x x2 e y b : ℕ) (g g' : List ℕ) → e ≡ cell_end x x2 → g' ≡ put (span x e y) (bits_from x b) g → g' ≡ put (span x (cell_end x x2) y) (bits_from x b) g
part_painted x x2 e y b g g' ee q = q ∙ ap (λ (n : ℕ). put (span x n y) (bits_from x b) g) ee
