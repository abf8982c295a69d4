-- The shapes of the built-in font's glyphs, each as one number, and in how many pixels two of them differ.
-- Assumes nothing.
use Rattle.std.specs.Prelude.{cond, ◌&&◌, List, [], ◌∷◌, ℕ, zero, suc, ◌+◌, ◌-◌, ◌*◌, ◌/◌, ◌%◌, ◌^◌, eqb, leb, get_or, drop}
use Rattle.builtin_font.specs.Table.{table}

-- five bytes of the table from number o on
abbrev pub five_from : ℕ → List ℕ
five_from o = get_or table o 0 ∷ get_or table (o + 1) 0 ∷ get_or table (o + 2) 0 ∷ get_or table (o + 3) 0 ∷ get_or table (o + 4) 0 ∷ []

-- the rows of a character, packed; of one that the font has not, five zeros
unfoldable pub rows_of : ℕ → List ℕ
rows_of c = cond (leb 32 c && leb c 126) (five_from (289 + 5 * (c - 32))) (0 ∷ 0 ∷ 0 ∷ 0 ∷ 0 ∷ [])

-- the first five bytes, the first highest
unfoldable pub five_bytes : List ℕ → ℕ
five_bytes l = 4294967296 * get_or l 0 0 + 16777216 * get_or l 1 0 + 65536 * get_or l 2 0 + 256 * get_or l 3 0 + get_or l 4 0

-- the 40 bits of glyph number k, at 289 + 5k: its 35 pixels row after row, and the five bits behind them
unfoldable pub bits_at : ℕ → ℕ
bits_at k = five_bytes (drop (289 + 5 * k) table)

abbrev pub shape_at : ℕ → ℕ
shape_at k = bits_at k / 32

abbrev pub spare_at : ℕ → ℕ
spare_at k = bits_at k % 32

-- digit d is character 48 + d
abbrev pub digit_shape : ℕ → ℕ
digit_shape d = shape_at (16 + d)

-- pixel number n of a shape, counted from the last; 1 is black
unfoldable pub from_last : ℕ → ℕ → ℕ
from_last s n = s / 2 ^ n % 2

abbrev pub pixel_of : ℕ → ℕ → ℕ → ℕ
pixel_of s x y = from_last s (34 - (5 * y + x))

-- 1 for two pixels that differ
abbrev pub unlike : ℕ → ℕ → ℕ
unlike p q = cond (eqb p q) 0 1

-- in how many of their last n pixels two shapes differ
unfoldable pub differing : ℕ → ℕ → ℕ → ℕ
differing zero a b = 0
differing (suc n) a b = unlike (from_last a n) (from_last b n) + differing n a b

abbrev pub distance : ℕ → ℕ → ℕ
distance a b = differing 35 a b
