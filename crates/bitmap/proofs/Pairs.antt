-- Two bytes at once: blended, stored, and the columns of a row that they are.
-- Assumes nothing.
use mathlib.Core.Path.{◌≡◌, refl, sym, ap, ◌∙◌, subst}
use mathlib.Core.Bool.{Bool, true, false, cond, not, ◌&&◌, and-false}
use mathlib.Core.List.{List}
use Prim.Native.Nat.{ℕ, zero, suc, ◌+◌, ◌-◌, ◌*◌, ◌/◌, ◌%◌, ◌^◌, ◌<◌, ◌≤◌, min}
use native.Mathlib.Omega.{arith}
use native.Mathlib.Decide.{dec_lt}
use lib.Dec.{eqb}
use lib.Bits.{bit_and, bit_xor, and_shr, and_mod, and_le_l, xor_shr, xor_mod, xor_lt}
use lib.ListN.{length, get_or, set, length-set}
use lib.Pow.{shr-shr, shr_le, shl-shr, field}
use lib.Seq.{get_or-set_other}
use borrow.Author.Tests.{eqb-true}
use Rattle.pixels.specs.Framebuffer.{bit_of, cell, put, width}
use Rattle.pixels.specs.Regions.{span}
use Rattle.pixels.proofs.Tests.{agree}
use Rattle.pixels.proofs.Bits.{byte_is, bit_and_lem, bit_zero}
use Rattle.pixels.proofs.Pictures.{Bytes}
use Rattle.pixels.proofs.Painting.{put_off, bytes_repaint, length-repaint}
use Rattle.pixels.proofs.Growth.{SpanPainted, span_run}
use Rattle.canvas.specs.Canvas.{masked}
use Rattle.spans.specs.Bits.{blended_of, cell_bits, bits_from, window_of}
use Rattle.spans.proofs.Cells.{blend_on, cell_painted}
use Rattle.spans.proofs.Windows.{low_bit, window_is}
use Rattle.std.specs.Int.{w16, swap_bytes}
use Rattle.bitmap.specs.Pairs.{pair_of, swapped, column_mask, BlendedPair, put_pair}

-- ---- read, blended and stored

pub pair_is : (s : List ℕ) (i n : ℕ) → n ≡ get_or s i 0 + 256 * get_or s (i + 1) 0 → n ≡ pair_of s i
unfolding pair_of
pair_is s i n e = e

unequal : Bool → Bool → Bool
unequal a b = cond a (not b) b

unequal_digits : (m n : ℕ) → m < 2 → n < 2 → eqb (bit_xor m n) 1 ≡ unequal (eqb m 1) (eqb n 1)
unfolding unequal
unequal_digits zero zero h k = refl
unequal_digits zero (suc zero) h k = refl
unequal_digits (suc zero) zero h k = refl
unequal_digits (suc zero) (suc zero) h k = refl
unequal_digits zero (suc (suc n)) h k = absurd (omega arith)
unequal_digits (suc zero) (suc (suc n)) h k = absurd (omega arith)
unequal_digits (suc (suc m)) n h k = absurd (omega arith)

bit_xor_lem : (a b k : ℕ) → bit_of (bit_xor a b) k ≡ unequal (bit_of a k) (bit_of b k)
unfolding bit_of
bit_xor_lem a b k =
    rw (xor_shr a b (7 - k), xor_mod (a / 2 ^ (7 - k)) (b / 2 ^ (7 - k)) 1)
    (unequal_digits (a / 2 ^ (7 - k) % 2) (b / 2 ^ (7 - k) % 2) (omega arith) (omega arith))

merge : (a b m : Bool) → unequal (unequal a b && m) a ≡ cond m b a
unfolding unequal
merge true true true = refl
merge true true false = refl
merge true false true = refl
merge true false false = refl
merge false true true = refl
merge false true false = refl
merge false false true = refl
merge false false false = refl

byte_blended : (a m b : ℕ) → a < 256 → b < 256 → bit_xor (bit_and (bit_xor a b) m) a ≡ blended_of a m b
unfolding blended_of
byte_blended a m b ha hb =
    byte_is (bit_xor (bit_and (bit_xor a b) m) a) (λ j. cond (bit_of m j) (bit_of b j) (bit_of a j))
    (xor_lt 8 (bit_and (bit_xor a b) m) a (omega (arith, and_le_l (bit_xor a b) m, xor_lt 8 a b ha hb)) ha)
    (λ j l. bit_xor_lem (bit_and (bit_xor a b) m) a j ∙ rw (bit_and_lem (bit_xor a b) m j, bit_xor_lem a b j) (merge (bit_of a j) (bit_of b j) (bit_of m j)))

pub pair_blended : (a m b : ℕ) → a < 65536 → b < 65536 → BlendedPair a m b (bit_xor (bit_and (bit_xor a b) m) a)
pair_blended a m b ha hb =
    record {
      first = xor_mod (bit_and (bit_xor a b) m) a 8 ∙ rw (and_mod (bit_xor a b) m 8, xor_mod a b 8) (byte_blended (a % 256) (m % 256) (b % 256) (omega arith) (omega arith));
      second = xor_shr (bit_and (bit_xor a b) m) a 8 ∙ rw (and_shr (bit_xor a b) m 8, xor_shr a b 8) (byte_blended (a / 256) (m / 256) (b / 256) (omega arith) (omega arith));
    }

module _ (g : List ℕ) (i : ℕ) (h : Bytes g) (l : i + 1 < length g) where
  pair_first : pair_of g i % 256 ≡ get_or g i 0
  unfolding pair_of
  pair_first = omega (arith, h i)

  pair_second : pair_of g i / 256 ≡ get_or g (i + 1) 0
  unfolding pair_of
  pair_second = omega (arith, h i)

  pub pair_stored : (m b r : ℕ) → BlendedPair (pair_of g i) m b r → set (set g i (r % 256)) (i + 1) (r / 256) ≡ put_pair i m b g
  unfolding put_pair
  pair_stored m b r s =
      blend_on (set g i (r % 256)) (i + 1) (m / 256) (b / 256) (r / 256) (subst Bytes (sym one) (bytes_repaint _ g)) (rw (length-set g i (r % 256)) l)
      (s.second ∙ ap (λ (n : ℕ). blended_of n (m / 256) (b / 256)) (pair_second ∙ sym (get_or-set_other g i (i + 1) (r % 256) 0 (omega arith))))
      ∙ ap (put (masked (i + 1) (m / 256)) (cell_bits (b / 256))) one
    where
      one : set g i (r % 256) ≡ put (masked i (m % 256)) (cell_bits (b % 256)) g
      one = blend_on g i (m % 256) (b % 256) (r % 256) h (omega arith) (s.first ∙ ap (λ (n : ℕ). blended_of n (m % 256) (b % 256)) pair_first)

-- ---- the two bytes of a number swapped

pub swap_is : (n r : ℕ) → n < 65536 → r ≡ swap_bytes w16 n → r ≡ swapped n
unfolding swapped
swap_is n r h e = omega arith

swapped_first : (n : ℕ) → n < 65536 → swapped n % 256 ≡ n / 256
unfolding swapped
swapped_first n h = omega arith

swapped_second : (n : ℕ) → n < 65536 → swapped n / 256 ≡ n % 256
unfolding swapped
swapped_second n h = omega arith

-- ---- the mask of n columns from column s on, in each of the two bytes

left_mask : (s n : ℕ) → s < 8 → n < 9 → column_mask s n / 256 ≡ bit_and (255 / 2 ^ s) (255 - 255 / 2 ^ min (s + n) 8)
unfolding column_mask
left_mask s n hs hn =
    eqb-true (column_mask s n / 256) (bit_and (255 / 2 ^ s) (255 - 255 / 2 ^ min (s + n) 8))
    (agree 8 9 (λ s n. eqb (column_mask s n / 256) (bit_and (255 / 2 ^ s) (255 - 255 / 2 ^ min (s + n) 8))) (λ s n. true) refl s n hs hn)

right_mask : (s n : ℕ) → s < 8 → n < 9 → column_mask s n % 256 ≡ bit_and 255 (255 - 255 / 2 ^ (s + n - 8))
unfolding column_mask
right_mask s n hs hn =
    eqb-true (column_mask s n % 256) (bit_and 255 (255 - 255 / 2 ^ (s + n - 8)))
    (agree 8 9 (λ s n. eqb (column_mask s n % 256) (bit_and 255 (255 - 255 / 2 ^ (s + n - 8)))) (λ s n. true) refl s n hs hn)

mask_lt : (s n : ℕ) → column_mask s n < 65536
unfolding column_mask
mask_lt s n = omega (arith, shr_le (65535 - 65535 / 2 ^ n) s)

-- ---- up to eight columns painted, from the highest bit of n on

module _ (g : List ℕ) (x1 x2 y i m n s : ℕ) (bs : Bytes g) (some : x1 < x2) (few : x2 ≤ x1 + 8) (inside : x2 ≤ width) (es : s ≡ x1 % 8) (ei : i ≡ cell x1 y)
    (em : m ≡ column_mask s (x2 - x1)) (small : n < 65536) where
  -- the columns in the first byte
  left_painted : put (masked i (m / 256)) (cell_bits (n / 2 ^ s / 256)) g ≡ put (span x1 (min (8 * (x1 / 8) + 8) x2) y) (bits_from x1 (n / 256)) g
  left_painted =
      cell_painted g (put (masked i (m / 256)) (cell_bits (n / 2 ^ s / 256)) g) x1 (min (8 * (x1 / 8) + 8) x2) y (n / 256) i (m / 256) s (min (s + (x2 - x1)) 8)
      (omega arith) (omega arith) (omega arith) es (omega arith) ei (rw em (left_mask s (x2 - x1) (omega arith) (omega arith)))
      (let e : n / 2 ^ s / 256 ≡ n / 256 / 2 ^ s = shr-shr n s 8 ∙ (let z : s + 8 ≡ 8 + s = omega arith in rw z) ∙ sym (shr-shr n 8 s) in rw e)

  -- those in the second, if there are any
  right_painted : (h : List ℕ) → 8 * (x1 / 8) + 8 < x2
      → put (masked (i + 1) (m % 256)) (cell_bits (n / 2 ^ s % 256)) h ≡ put (span (8 * (x1 / 8) + 8) x2 y) (bits_from (8 * (x1 / 8) + 8) (n / 2 ^ s % 256)) h
  right_painted h l =
      cell_painted h (put (masked (i + 1) (m % 256)) (cell_bits (n / 2 ^ s % 256)) h) (8 * (x1 / 8) + 8) x2 y (n / 2 ^ s % 256) (i + 1) (m % 256) 0 (s + (x2 - x1) - 8)
      l (omega arith) (omega arith) (omega arith) (omega arith) (omega arith) (rw em (right_mask s (x2 - x1) (omega arith) (omega arith)))
      (let d : n / 2 ^ s % 256 / 2 ^ 0 ≡ n / 2 ^ s % 256 = omega arith in rw d)

  right_none : (h : List ℕ) → Bytes h → x2 ≤ 8 * (x1 / 8) + 8 → h ≡ put (masked (i + 1) (m % 256)) (cell_bits (n / 2 ^ s % 256)) h
  right_none h b l =
      let e : s + (x2 - x1) - 8 ≡ 0 = omega arith in
      let z : m % 256 ≡ 0 = rw em (right_mask s (x2 - x1) (omega arith) (omega arith) ∙ rw e) in
      put_off (masked (i + 1) (m % 256)) (cell_bits (n / 2 ^ s % 256)) h b (λ u v on. rw (z, bit_zero (u % 8)) (and-false (eqb (cell u v) (i + 1))))

  right_bit : (u : ℕ) → 8 * (x1 / 8) + 8 ≤ u → u < x2 → bits_from (8 * (x1 / 8) + 8) (n / 2 ^ s % 256) u y ≡ bits_from x1 (n / 256) u y
  unfolding bits_from bit_of
  right_bit u l r =
      let z : s + (7 - (u - (8 * (x1 / 8) + 8))) ≡ 8 + (7 - (u - x1)) = omega arith in
      rw (low_bit (n / 2 ^ s) (7 - (u - (8 * (x1 / 8) + 8))) (omega arith), shr-shr n s (7 - (u - (8 * (x1 / 8) + 8))), z, ← shr-shr n 8 (7 - (u - x1)))

  pub pair_painted : put_pair i (swapped m) (swapped (n / 2 ^ s)) g ≡ put (span x1 x2 y) (bits_from x1 (n / 256)) g
  unfolding put_pair
  pair_painted =
      rw (swapped_first m (rw em (mask_lt s (x2 - x1))), swapped_second m (rw em (mask_lt s (x2 - x1))), swapped_first (n / 2 ^ s) (omega (arith, shr_le n s)), swapped_second (n / 2 ^ s) (omega (arith, shr_le n s)))
      (ap (put (masked (i + 1) (m % 256)) (cell_bits (n / 2 ^ s % 256))) left_painted
      ∙ elim (dec_lt (8 * (x1 / 8) + 8) x2) [
        | yes l ↦ (let e : min (8 * (x1 / 8) + 8) x2 ≡ 8 * (x1 / 8) + 8 = omega arith in
            rw e (right_painted (put (span x1 (8 * (x1 / 8) + 8) y) (bits_from x1 (n / 256)) g) l
            ∙ (span_run (bits_from (8 * (x1 / 8) + 8) (n / 2 ^ s % 256)) (so_far l) (omega arith) (omega arith) refl right_bit).shows))
        | no l ↦ (let e : min (8 * (x1 / 8) + 8) x2 ≡ x2 = omega arith in
            rw e (sym (right_none (put (span x1 x2 y) (bits_from x1 (n / 256)) g) (bytes_repaint _ g) (omega arith))))
      ])
    where
      so_far : 8 * (x1 / 8) + 8 < x2 → SpanPainted x1 x2 y (8 * (x1 / 8) + 8) (bits_from x1 (n / 256)) g (put (span x1 (8 * (x1 / 8) + 8) y) (bits_from x1 (n / 256)) g)
      so_far l = record { low = omega arith; high = omega arith; long = length-repaint _ g; shows = refl }

-- ---- eight bits cut out of two bytes are the higher of two again

shifted_by : (n s : ℕ) → s < 8 → n * 2 ^ s / 256 ≡ n / 2 ^ (8 - s)
shifted_by n s h =
    let z : s + (8 - s) ≡ 8 = omega arith in
    (let y : n * 2 ^ s / 2 ^ (s + (8 - s)) ≡ n * 2 ^ s / 256 = rw z in sym y) ∙ sym (shr-shr (n * 2 ^ s) s (8 - s)) ∙ rw (shl-shr n s)

pub pair_window : (bits : List ℕ) (k : ℕ) → Bytes bits → (256 * get_or bits (k / 8) 0 + get_or bits (k / 8 + 1) 0) * 2 ^ (k % 8) % 65536 / 256 ≡ window_of bits k
pair_window bits k b =
    field ((256 * get_or bits (k / 8) 0 + get_or bits (k / 8 + 1) 0) * 2 ^ (k % 8)) 8 8
    ∙ rw (shifted_by (256 * get_or bits (k / 8) 0 + get_or bits (k / 8 + 1) 0) (k % 8) (omega arith))
    (window_is bits k (get_or bits (k / 8) 0) (get_or bits (k / 8 + 1) 0) refl refl (b (k / 8 + 1)))
