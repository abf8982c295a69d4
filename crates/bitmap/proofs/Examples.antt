-- Worked examples of bitmaps, by computing.
-- Assumes nothing.
use mathlib.Core.Path.{◌≡◌, refl}
use mathlib.Core.Bool.{Bool, true, false}
use mathlib.Core.List.{List, [], ◌∷◌}
use Prim.Native.Nat.{ℕ, zero, suc, ◌+◌, ◌*◌, ◌/◌}
use Rattle.pixels.specs.Framebuffer.{Picture, bit_of}
use Rattle.pixels.specs.Regions.{within}
use Rattle.spans.specs.Bits.{packed_bit}
use Rattle.bitmap.specs.Bitmaps.{packed, row_bytes, inline_column, inline_row, inline_pixels}

-- columns x up to x + n of row y
row : Picture → ℕ → ℕ → ℕ → List Bool
row p x y zero = []
row p x y (suc n) = p x y ∷ row p (suc x) y n

-- the 3 by 5 glyph E9 24 (hex) is a T
glyph : List ℕ
glyph = 233 ∷ 36 ∷ []

t_head : row (packed 10 20 3 glyph) 10 20 3 ≡ true ∷ true ∷ true ∷ []
unfolding row packed packed_bit bit_of glyph
t_head = refl

t_stem_1 : row (packed 10 20 3 glyph) 10 21 3 ≡ false ∷ true ∷ false ∷ []
unfolding row packed packed_bit bit_of glyph
t_stem_1 = refl

t_stem_2 : row (packed 10 20 3 glyph) 10 22 3 ≡ false ∷ true ∷ false ∷ []
unfolding row packed packed_bit bit_of glyph
t_stem_2 = refl

t_stem_3 : row (packed 10 20 3 glyph) 10 23 3 ≡ false ∷ true ∷ false ∷ []
unfolding row packed packed_bit bit_of glyph
t_stem_3 = refl

t_stem_4 : row (packed 10 20 3 glyph) 10 24 3 ≡ false ∷ true ∷ false ∷ []
unfolding row packed packed_bit bit_of glyph
t_stem_4 = refl

-- a 5 by 4 picture: 3 bytes saved, 4 in line
saved_bytes : (5 * 4 + 7) / 8 ≡ 3
saved_bytes = refl

inline_bytes_lem : row_bytes 0 4 * 4 ≡ 4
inline_bytes_lem = refl

-- a rectangle of one column has a byte to a row, and so has one of eight; the ninth column takes another byte
row_bytes_1 : row_bytes 7 7 ≡ 1
row_bytes_1 = refl

row_bytes_8 : row_bytes 0 7 ≡ 1
row_bytes_8 = refl

row_bytes_9 : row_bytes 0 8 ≡ 2
row_bytes_9 = refl

-- byte 3 of such a one, in rows from 10 on: the second byte of row 11, of which only column 8 is inside
inline_place_lem : (inline_column 0 8 3 ≡ 8) × (inline_row 0 10 8 3 ≡ 11)
inline_place_lem = (refl, refl)

inline_inside : row (inline_pixels 0 10 8 12 3) 7 11 3 ≡ false ∷ true ∷ false ∷ []
unfolding row inline_pixels within
inline_inside = refl
