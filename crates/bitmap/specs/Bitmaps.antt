-- Bitmaps of both kinds. Set bits are painted black, clear bits white, whatever the drawing colour.
-- Assumes nothing.
use Rattle.std.specs.Prelude.{◌&&◌, List, ℕ, ◌+◌, ◌-◌, ◌*◌, ◌/◌, ◌%◌}
use Rattle.pixels.specs.Framebuffer.{Region, Picture, bit_of, put}
use Rattle.pixels.specs.Regions.{span, box, rectangle}
use Rattle.spans.specs.Bits.{packed_bit}

-- ---- packed: a glyph or a saved bitmap. Its rows follow on without gaps, the highest bit of a byte first

-- rows of w bits from (x, y) on
unfoldable pub packed : ℕ → ℕ → ℕ → List ℕ → Picture
packed x y w bits u v = packed_bit bits ((v - y) * w + (u - x))

abbrev pub packed_box : ℕ → ℕ → ℕ → ℕ → List ℕ → List ℕ → List ℕ
packed_box x y w h bits g = put (box x (x + w) y (y + h)) (packed x y w bits) g

-- ---- in line: data for the rectangle of two corners, each row of which starts on a new byte

abbrev pub row_bytes : ℕ → ℕ → ℕ
row_bytes x1 x2 = (x2 - x1 + 8) / 8

-- the column of byte number k's first pixel, and its row
abbrev pub inline_column : ℕ → ℕ → ℕ → ℕ
inline_column x1 x2 k = x1 + 8 * (k % row_bytes x1 x2)

abbrev pub inline_row : ℕ → ℕ → ℕ → ℕ → ℕ
inline_row x1 y1 x2 k = y1 + k / row_bytes x1 x2

-- its pixels; bits beyond x2 are left out
unfoldable pub inline_pixels : ℕ → ℕ → ℕ → ℕ → ℕ → Region
inline_pixels x1 y1 x2 y2 k u v =
    rectangle x1 y1 x2 y2 u v && span (inline_column x1 x2 k) (inline_column x1 x2 k + 8) (inline_row x1 y1 x2 k) u v

unfoldable pub inline_bits : ℕ → ℕ → ℕ → ℕ → Picture
inline_bits x1 x2 k b u v = bit_of b (u - inline_column x1 x2 k)

abbrev pub inline_byte : ℕ → ℕ → ℕ → ℕ → ℕ → ℕ → List ℕ → List ℕ
inline_byte x1 y1 x2 y2 k b g = put (inline_pixels x1 y1 x2 y2 k) (inline_bits x1 x2 k b) g
