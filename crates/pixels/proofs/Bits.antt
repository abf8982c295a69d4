-- A byte and its bits.
-- Assumes nothing.
use mathlib.Core.Path.{◌≡◌, refl, sym, ap, ◌∙◌}
use mathlib.Core.Bool.{Bool, true, false, ◌&&◌, ◌||◌, not}
use Prim.Native.Nat.{ℕ, zero, suc, ◌+◌, ◌-◌, ◌*◌, ◌/◌, ◌%◌, ◌^◌, ◌<◌, ◌≤◌, min, max}
use native.Mathlib.Omega.{arith}
use native.Mathlib.Nat.{zero-div}
use lib.Dec.{eqb, leb}
use lib.Bits.{bit_and, bit_or, and_shr, or_shr, and_step, or_step}
use Rattle.pixels.specs.Framebuffer.{digit, bit_of, byte_of}
use Rattle.pixels.proofs.Tests.{agree}

digit_le : (b : Bool) → digit b ≤ 1
unfolding digit
digit_le true = omega arith
digit_le false = omega arith

digit_read : (b : Bool) (n : ℕ) → n ≡ digit b → eqb n 1 ≡ b
unfolding digit
digit_read true n e = rw e
digit_read false n e = rw e

bounds : (q : ℕ → Bool)
    → (digit (q 0) ≤ 1) × (digit (q 1) ≤ 1) × (digit (q 2) ≤ 1) × (digit (q 3) ≤ 1) × (digit (q 4) ≤ 1) × (digit (q 5) ≤ 1) × (digit (q 6) ≤ 1) × (digit (q 7) ≤ 1)
bounds q =
    (digit_le (q 0), digit_le (q 1), digit_le (q 2), digit_le (q 3), digit_le (q 4), digit_le (q 5), digit_le (q 6), digit_le (q 7))

pub byte_lt : (q : ℕ → Bool) → byte_of q < 256
unfolding byte_of
byte_lt q = let b = bounds q in omega arith

pub bit_byte : (q : ℕ → Bool) (k : ℕ) → k < 8 → bit_of (byte_of q) k ≡ q k
unfolding bit_of byte_of
bit_byte q zero h = let b = bounds q in digit_read (q 0) (byte_of q / 128 % 2) (omega arith)
bit_byte q (suc zero) h = let b = bounds q in digit_read (q 1) (byte_of q / 64 % 2) (omega arith)
bit_byte q (suc (suc zero)) h = let b = bounds q in digit_read (q 2) (byte_of q / 32 % 2) (omega arith)
bit_byte q (suc (suc (suc zero))) h = let b = bounds q in digit_read (q 3) (byte_of q / 16 % 2) (omega arith)
bit_byte q (suc (suc (suc (suc zero)))) h = let b = bounds q in digit_read (q 4) (byte_of q / 8 % 2) (omega arith)
bit_byte q (suc (suc (suc (suc (suc zero))))) h = let b = bounds q in digit_read (q 5) (byte_of q / 4 % 2) (omega arith)
bit_byte q (suc (suc (suc (suc (suc (suc zero)))))) h = let b = bounds q in digit_read (q 6) (byte_of q / 2 % 2) (omega arith)
bit_byte q (suc (suc (suc (suc (suc (suc (suc zero))))))) h = let b = bounds q in digit_read (q 7) (byte_of q / 1 % 2) (omega arith)
bit_byte q (suc (suc (suc (suc (suc (suc (suc (suc k)))))))) h = absurd (omega arith)

digit_of : (n : ℕ) → n < 2 → digit (eqb n 1) ≡ n
unfolding digit
digit_of zero h = refl
digit_of (suc zero) h = refl
digit_of (suc (suc n)) h = absurd (omega arith)

-- eight digits make the number, each half by half
join : (b b1 b2 b3 b4 b5 b6 d0 d1 d2 d3 d4 d5 d6 d7 : ℕ) → 2 * b1 + d7 ≡ b → 2 * b2 + d6 ≡ b1 → 2 * b3 + d5 ≡ b2 → 2 * b4 + d4 ≡ b3
    → 2 * b5 + d3 ≡ b4 → 2 * b6 + d2 ≡ b5 → 2 * d0 + d1 ≡ b6
    → 128 * d0 + 64 * d1 + 32 * d2 + 16 * d3 + 8 * d4 + 4 * d5 + 2 * d6 + d7 ≡ b
join b b1 b2 b3 b4 b5 b6 d0 d1 d2 d3 d4 d5 d6 d7 e7 e6 e5 e4 e3 e2 e1 = omega arith

pub byte_bit : (b : ℕ) → b < 256 → byte_of (bit_of b) ≡ b
unfolding bit_of byte_of
byte_bit b h =
    simp (digit_of (b / 128 % 2) (omega arith), digit_of (b / 64 % 2) (omega arith), digit_of (b / 32 % 2) (omega arith), digit_of (b / 16 % 2) (omega arith), digit_of (b / 8 % 2) (omega arith), digit_of (b / 4 % 2) (omega arith), digit_of (b / 2 % 2) (omega arith), digit_of (b / 1 % 2) (omega arith))
    (join b (b / 2) (b / 4) (b / 8) (b / 16) (b / 32) (b / 64) (b / 128 % 2) (b / 64 % 2) (b / 32 % 2) (b / 16 % 2) (b / 8 % 2) (b / 4 % 2) (b / 2 % 2) (b / 1 % 2)
    (omega arith) (omega arith) (omega arith) (omega arith) (omega arith) (omega arith) (omega arith))

pub byte_same : (q r : ℕ → Bool) → ((k : ℕ) → k < 8 → q k ≡ r k) → byte_of q ≡ byte_of r
unfolding byte_of
byte_same q r e =
    rw (e 0 (omega arith), e 1 (omega arith), e 2 (omega arith), e 3 (omega arith), e 4 (omega arith), e 5 (omega arith), e 6 (omega arith), e 7 (omega arith))

-- a byte is known by its bits
pub byte_is : (b : ℕ) (q : ℕ → Bool) → b < 256 → ((k : ℕ) → k < 8 → bit_of b k ≡ q k) → b ≡ byte_of q
byte_is b q h e = sym (byte_bit b h) ∙ byte_same (bit_of b) q e

-- 0 is eight white pixels
pub bit_zero : (k : ℕ) → bit_of 0 k ≡ false
unfolding bit_of
bit_zero k = rw (zero-div (2 ^ (7 - k)))

-- ---- masks, bit by bit

max_or : (m n : ℕ) → m < 2 → n < 2 → eqb (max m n) 1 ≡ (eqb m 1 || eqb n 1)
max_or zero zero h k = refl
max_or zero (suc zero) h k = refl
max_or (suc zero) zero h k = refl
max_or (suc zero) (suc zero) h k = refl
max_or zero (suc (suc n)) h k = absurd (omega arith)
max_or (suc zero) (suc (suc n)) h k = absurd (omega arith)
max_or (suc (suc m)) n h k = absurd (omega arith)

min_and : (m n : ℕ) → m < 2 → n < 2 → eqb (min m n) 1 ≡ (eqb m 1 && eqb n 1)
min_and zero zero h k = refl
min_and zero (suc zero) h k = refl
min_and (suc zero) zero h k = refl
min_and (suc zero) (suc zero) h k = refl
min_and zero (suc (suc n)) h k = absurd (omega arith)
min_and (suc zero) (suc (suc n)) h k = absurd (omega arith)
min_and (suc (suc m)) n h k = absurd (omega arith)

or_odd : (a b : ℕ) → bit_or a b % 2 ≡ max (a % 2) (b % 2)
or_odd a b = omega (arith, or_step a b)

and_odd : (a b : ℕ) → bit_and a b % 2 ≡ min (a % 2) (b % 2)
and_odd a b = omega (arith, and_step a b)

pub bit_or_lem : (a b k : ℕ) → bit_of (bit_or a b) k ≡ (bit_of a k || bit_of b k)
unfolding bit_of
bit_or_lem a b k = rw (or_shr a b (7 - k), or_odd) (max_or (a / 2 ^ (7 - k) % 2) (b / 2 ^ (7 - k) % 2) (omega arith) (omega arith))

pub bit_and_lem : (a b k : ℕ) → bit_of (bit_and a b) k ≡ (bit_of a k && bit_of b k)
unfolding bit_of
bit_and_lem a b k = rw (and_shr a b (7 - k), and_odd) (min_and (a / 2 ^ (7 - k) % 2) (b / 2 ^ (7 - k) % 2) (omega arith) (omega arith))

flip : (b : Bool) → digit (not b) + digit b ≡ 1
unfolding digit
flip true = refl
flip false = refl

byte_not : (q : ℕ → Bool) → 255 - byte_of q ≡ byte_of (λ k. not (q k))
unfolding byte_of
byte_not q = omega (arith, flip (q 0), flip (q 1), flip (q 2), flip (q 3), flip (q 4), flip (q 5), flip (q 6), flip (q 7))

pub bit_not : (m k : ℕ) → m < 256 → k < 8 → bit_of (255 - m) k ≡ not (bit_of m k)
bit_not m k h l = ap (λ (n : ℕ). bit_of (255 - n) k) (sym (byte_bit m h)) ∙ rw (byte_not (bit_of m)) (bit_byte (λ k. not (bit_of m k)) k l)

-- the mask of bit k alone
pub bit_one : (k j : ℕ) → k < 8 → j < 8 → bit_of (128 / 2 ^ k) j ≡ eqb j k
unfolding bit_of
bit_one = agree 8 8 (λ k j. bit_of (128 / 2 ^ k) j) (λ k j. eqb j k) refl

-- the mask of the bits from number k on
pub bit_run : (k j : ℕ) → k < 9 → j < 8 → bit_of (255 / 2 ^ k) j ≡ leb k j
unfolding bit_of
bit_run = agree 9 8 (λ k j. bit_of (255 / 2 ^ k) j) (λ k j. leb k j) refl
