-- Two bytes side by side as one number, and bits from a given one on.
-- What contracts of private functions cite, and no rule.
-- Assumes nothing.
use Rattle.std.specs.Prelude.{◌≡◌, List, ℕ, ◌+◌, ◌-◌, ◌*◌, ◌/◌, ◌%◌, ◌^◌, ◌≤◌, length, get_or}
use Rattle.pixels.specs.Framebuffer.{Picture, put}
use Rattle.pixels.specs.Regions.{box}
use Rattle.canvas.specs.Canvas.{masked}
use Rattle.spans.specs.Bits.{packed_bit, blended_of, cell_bits}

-- the first byte is the lower, as it is for the processors that this is for
unfoldable pub pair_of : List ℕ → ℕ → ℕ
pair_of s i = get_or s i 0 + 256 * get_or s (i + 1) 0

-- with the first byte the higher, so that the bits go on from one byte to the next
unfoldable pub swapped : ℕ → ℕ
swapped n = 256 * (n % 256) + n / 256

-- n columns of sixteen, from column s on
unfoldable pub column_mask : ℕ → ℕ → ℕ
column_mask s n = (65535 - 65535 / 2 ^ n) / 2 ^ s

-- pair r: pair a, its bits under mask m those of pair b
pub record BlendedPair (a m b r : ℕ) : Type 0 where
  pub first : r % 256 ≡ blended_of (a % 256) (m % 256) (b % 256)
  pub second : r / 256 ≡ blended_of (a / 256) (m / 256) (b / 256)

-- where mask m has a 1, bytes i and i + 1 as those of pair b
unfoldable pub put_pair : ℕ → ℕ → ℕ → List ℕ → List ℕ
put_pair i m b g = put (masked (i + 1) (m / 256)) (cell_bits (b / 256)) (put (masked i (m % 256)) (cell_bits (b % 256)) g)

-- rows of w bits from number k on, the first one at (x, y)
unfoldable pub packed_from : ℕ → ℕ → ℕ → ℕ → List ℕ → Picture
packed_from k x y w bits u v = packed_bit bits (k + (v - y) * w + (u - x))

-- of the first n rows those above row `row` painted
pub record RowsReached (x1 x2 n w first row : ℕ) (bits g₀ g : List ℕ) : Type 0 where
  pub high : row ≤ n
  pub long : length g ≡ length g₀
  pub shows : g ≡ put (box x1 x2 0 row) (packed_from first x1 0 w bits) g₀
