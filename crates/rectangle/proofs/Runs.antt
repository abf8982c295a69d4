-- Whole bytes painted one after another.
-- Assumes nothing.
use mathlib.Core.Path.{◌≡◌, sym, ap, ◌∙◌}
use mathlib.Core.Bool.{Bool, true, false, cond, ◌||◌}
use mathlib.Core.List.{List}
use Prim.Native.Nat.{ℕ, ◌+◌, ◌-◌, ◌*◌, ◌/◌, ◌%◌, ◌<◌, ◌≤◌, min}
use native.Mathlib.Omega.{arith}
use native.Mathlib.Decide.{dec_lt}
use lib.ListN.{length, get_or, replicate, length-replicate, get_or-replicate, get_or-eq_default}
use borrow.Author.Tests.{le-leb}
use borrow.Rule.Slice.PartMut.{put_mid, same_len_mid, mid_len}
use Rattle.pixels.specs.Framebuffer.{Region, bit_of, cell, pixel, fill, plain}
use Rattle.pixels.proofs.Bits.{bit_run, bit_zero}
use Rattle.pixels.proofs.Pictures.{Bytes}
use Rattle.pixels.proofs.Painting.{is_repaint, put_put, put_region}
use Rattle.pixels.proofs.Intervals.{within_yes, within_before, within_after, within_over, within_iff}
use Rattle.pixels.proofs.Rows.{get_or-back, bytes_back}
use Rattle.pixels.specs.Regions.{within}
use Rattle.rectangle.specs.Ends.{solid_byte, whole_bytes}

-- one region more
pub more : (s t : Region) (c : Bool) (g h k : List ℕ) → h ≡ fill s c g → k ≡ fill t c h → k ≡ fill (λ u v. s u v || t u v) c g
more s t c g h k e f = f ∙ ap (fill t c) e ∙ put_put s t (plain c) g

-- 255 has all eight bits
bit_all : (j : ℕ) → j < 8 → bit_of 255 j ≡ true
bit_all j h = bit_run 0 j (omega arith) h ∙ le-leb 0 j (omega arith)

solid_bit : (c : Bool) (j : ℕ) → j < 8 → bit_of (solid_byte c) j ≡ c
unfolding solid_byte
solid_bit true j h = bit_all j h
solid_bit false j h = bit_zero j

solid_lt : (c : Bool) → solid_byte c < 256
unfolding solid_byte
solid_lt true = omega arith
solid_lt false = omega arith

pub solid_black : (c : Bool) → c ≡ true → 255 ≡ solid_byte c
unfolding solid_byte
solid_black c e = rw e

pub solid_white : (c : Bool) → c ≡ false → 0 ≡ solid_byte c
unfolding solid_byte
solid_white c e = rw e

-- bytes from number a up to number e, each of them solid
module _ (g m : List ℕ) (a e n b : ℕ) (c : Bool) (low : a ≤ e) (high : e ≤ length g) (count : n ≡ e - a) (solid : b ≡ solid_byte c) (all : m ≡ replicate n b) (bytes : Bytes g) where
  long : length m ≡ e - a
  long = ap length all ∙ length-replicate n b ∙ count

  each : (k : ℕ) → k < e - a → get_or m k 0 ≡ solid_byte c
  each k h = ap (λ (l : List ℕ). get_or l k 0) all ∙ get_or-replicate n k b 0 (omega arith) ∙ solid

  solid_bytes : Bytes m
  solid_bytes k =
      elim (dec_lt k (e - a)) [
        | yes p ↦ rw (each k p) (solid_lt c)
        | no p ↦ rw (get_or-eq_default m 0 {n = k} (omega (arith, long))) (omega arith)
      ]

  pub run_filled : put_mid a (e - a) g m ≡ fill (whole_bytes a e) c g
  unfolding pixel
  run_filled =
      is_repaint (put_mid a (e - a) g m) (λ u v o. cond (within a e (30 * v + u / 8)) c o) g (same_len_mid a (e - a) g m (long ∙ sym (mid_len a e g high)))
      (bytes_back a e g m low high long bytes solid_bytes)
      (λ u v on. rw (get_or-back a e g m low high long (30 * v + u / 8)) (elim (dec_lt (30 * v + u / 8) a) [
        | yes p ↦ rw (within_before a e (30 * v + u / 8) p)
        | no p ↦ (elim (dec_lt (30 * v + u / 8) e) [
          | yes q ↦ rw (within_yes a e (30 * v + u / 8) (omega arith) q, each (30 * v + u / 8 - a) (omega arith)) (solid_bit c (u % 8) (omega arith))
          | no q ↦ rw (within_after a e (30 * v + u / 8) (omega arith))
        ])
      ]))

-- two runs of which the second begins in the first, or behind it
pub two_runs : (a b i j : ℕ) (c : Bool) (g g1 g2 : List ℕ) → a ≤ i → i ≤ b → b ≤ j → g1 ≡ fill (whole_bytes a b) c g → g2 ≡ fill (whole_bytes i j) c g1
    → g2 ≡ fill (whole_bytes a j) c g
two_runs a b i j c g g1 g2 h k l p q =
    more (whole_bytes a b) (whole_bytes i j) c g g1 g2 p q
    ∙ put_region (λ u v. whole_bytes a b u v || whole_bytes i j u v) (whole_bytes a j) (plain c) g (λ u v on. within_over a b i j (cell u v) h k l)

-- a run of which only what the framebuffer has is filled
pub run_cut : (a b i e : ℕ) (c : Bool) (g h : List ℕ) → i ≡ min (length g) a → e ≡ min (length g) b → h ≡ fill (whole_bytes i e) c g → h ≡ fill (whole_bytes a b) c g
run_cut a b i e c g h p q r =
    r ∙ put_region (whole_bytes i e) (whole_bytes a b) (plain c) g (λ u v on. within_iff i e (cell u v) a b (cell u v) (omega (arith, on.1)) (omega (arith, on.1)))
