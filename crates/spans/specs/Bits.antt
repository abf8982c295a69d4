-- Bits of a list of bytes, and those of one byte as pixels.
-- Assumes nothing.
use Rattle.std.specs.Prelude.{Bool, cond, List, ℕ, ◌+◌, ◌-◌, ◌*◌, ◌/◌, ◌%◌, min, get_or}
use Rattle.pixels.specs.Framebuffer.{Picture, bit_of, byte_of}

-- bit number k, the highest bit of a byte first; behind the last byte all are clear
unfoldable pub packed_bit : List ℕ → ℕ → Bool
packed_bit bits k = bit_of (get_or bits (k / 8) 0) (k % 8)

-- the byte of the eight bits from number k on
unfoldable pub window_of : List ℕ → ℕ → ℕ
window_of bits k = byte_of (λ i. packed_bit bits (k + i))

-- byte a, its bits under mask m those of byte b
unfoldable pub blended_of : ℕ → ℕ → ℕ → ℕ
blended_of a m b = byte_of (λ k. cond (bit_of m k) (bit_of b k) (bit_of a k))

-- byte b in every byte of the framebuffer
unfoldable pub cell_bits : ℕ → Picture
cell_bits b u v = bit_of b (u % 8)

-- the bits of byte b from column x on
unfoldable pub bits_from : ℕ → ℕ → Picture
bits_from x b u v = bit_of b (u - x)

-- the column behind the byte of column x, or x2 if that comes first
unfoldable pub cell_end : ℕ → ℕ → ℕ
cell_end x x2 = min (8 * (x / 8) + 8) x2
