-- Eight bits cut out of two bytes.
-- Assumes nothing.
use mathlib.Core.Path.{◌≡◌, sym, ◌∙◌}
use mathlib.Core.List.{List}
use Prim.Native.Nat.{ℕ, zero, suc, ◌+◌, ◌-◌, ◌*◌, ◌/◌, ◌%◌, ◌^◌, ◌<◌, ◌≤◌}
use native.Mathlib.Omega.{arith}
use native.Mathlib.Decide.{dec_lt}
use lib.ListN.{length, get_or, get_or-eq_default}
use lib.Pow.{shr-shr}
use Rattle.pixels.specs.Framebuffer.{bit_of}
use Rattle.pixels.proofs.Bits.{byte_is}
use Rattle.spans.specs.Bits.{packed_bit, window_of}

pub behind : (bits : List ℕ) (i : ℕ) → length bits ≤ i → 0 ≡ get_or bits i 0
behind bits i h = sym (get_or-eq_default bits 0 {n = i} h)

-- a low bit of a number is one of its remainder
pub low_bit : (n j : ℕ) → j < 8 → n % 256 / 2 ^ j % 2 ≡ n / 2 ^ j % 2
low_bit n zero h = omega arith
low_bit n (suc zero) h = omega arith
low_bit n (suc (suc zero)) h = omega arith
low_bit n (suc (suc (suc zero))) h = omega arith
low_bit n (suc (suc (suc (suc zero)))) h = omega arith
low_bit n (suc (suc (suc (suc (suc zero))))) h = omega arith
low_bit n (suc (suc (suc (suc (suc (suc zero)))))) h = omega arith
low_bit n (suc (suc (suc (suc (suc (suc (suc zero))))))) h = omega arith
low_bit n (suc (suc (suc (suc (suc (suc (suc (suc j)))))))) h = absurd (omega arith)

module _ (a b : ℕ) (small : b < 256) where
  -- bit t from the right of two bytes: one of the right byte, or of the left
  right_bit : (t : ℕ) → t < 8 → (256 * a + b) / 2 ^ t % 2 ≡ b / 2 ^ t % 2
  right_bit t h =
      let r : (256 * a + b) % 256 ≡ b = omega arith in
      sym (low_bit (256 * a + b) t h) ∙ rw r

  left_bit : (t : ℕ) → (256 * a + b) / 2 ^ (8 + t) ≡ a / 2 ^ t
  left_bit t = let q : (256 * a + b) / 256 ≡ a = omega arith in sym (shr-shr (256 * a + b) 8 t) ∙ rw q

-- the eight bits from number s on of two bytes
module _ (bits : List ℕ) (k x y : ℕ) (left : x ≡ get_or bits (k / 8) 0) (right : y ≡ get_or bits (k / 8 + 1) 0) (small : y < 256) where
  cut : (i : ℕ) → i < 8 → bit_of ((256 * x + y) / 2 ^ (8 - k % 8) % 256) i ≡ packed_bit bits (k + i)
  unfolding bit_of packed_bit
  cut i h =
      rw (low_bit ((256 * x + y) / 2 ^ (8 - k % 8)) (7 - i) (omega arith), shr-shr (256 * x + y) (8 - k % 8) (7 - i))
      (elim (dec_lt (k % 8 + i) 8) [
        | yes l ↦ (let t : 8 - k % 8 + (7 - i) ≡ 8 + (7 - (k % 8 + i)) = omega arith in
            let d : (k + i) / 8 ≡ k / 8 = omega arith in
            let m : (k + i) % 8 ≡ k % 8 + i = omega arith in
            rw (t, left_bit x y small (7 - (k % 8 + i)), d, m, left))
        | no l ↦ (let t : 8 - k % 8 + (7 - i) ≡ 7 - (k + i) % 8 = omega arith in
            let d : (k + i) / 8 ≡ k / 8 + 1 = omega arith in
            rw (t, right_bit x y small (7 - (k + i) % 8) (omega arith), d, right))
      ])

  pub window_is : (256 * x + y) / 2 ^ (8 - k % 8) % 256 ≡ window_of bits k
  unfolding window_of
  window_is = byte_is ((256 * x + y) / 2 ^ (8 - k % 8) % 256) (λ i. packed_bit bits (k + i)) (omega arith) cut
