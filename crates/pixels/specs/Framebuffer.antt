-- The framebuffer (the rules paper's glass): rows of 240 pixels, 30 bytes each, the top row first, the highest bit leftmost, 1 black.
-- Assumes nothing.
use Rattle.std.specs.Prelude.{Bool, true, false, cond, ◌&&◌, List, [], ◌∷◌, ℕ, zero, suc, ◌+◌, ◌-◌, ◌*◌, ◌/◌, ◌%◌, ◌^◌, ◌<◌, min, max, eqb, ltb, length, get_or}

abbrev pub width : ℕ
width = 240

-- bytes in a row
abbrev pub stride : ℕ
stride = 30

-- a set of pixels, and what stands at each pixel (true is black): both by column and row
abbrev pub Region : Type 0
Region = ℕ → ℕ → Bool

abbrev pub Picture : Type 0
Picture = ℕ → ℕ → Bool

unfoldable pub digit : Bool → ℕ
digit true = 1
digit false = 0

-- bit k of a byte, 0 the leftmost
unfoldable pub bit_of : ℕ → ℕ → Bool
bit_of b k = eqb (b / 2 ^ (7 - k) % 2) 1

-- the byte whose bit k is q k
unfoldable pub byte_of : (ℕ → Bool) → ℕ
byte_of q =
    128 * digit (q 0) + 64 * digit (q 1) + 32 * digit (q 2) + 16 * digit (q 3) + 8 * digit (q 4) + 4 * digit (q 5) + 2 * digit (q 6)
    + digit (q 7)

-- n bytes from number i on of the bits p
unfoldable pub bytes_of : (ℕ → Bool) → ℕ → ℕ → List ℕ
bytes_of p i zero = []
bytes_of p i (suc n) = byte_of (λ k. p (8 * i + k)) ∷ bytes_of p (suc i) n

-- the number of the byte that holds column x of row y
abbrev pub cell : ℕ → ℕ → ℕ
cell x y = stride * y + x / 8

-- Of n bytes, rows y1 up to y2: their first byte, the first byte behind them, and how many they are, a broken last row counted.
abbrev pub row_start : ℕ → ℕ → ℕ
row_start n y = min (stride * y) n

abbrev pub rows_end : ℕ → ℕ → ℕ → ℕ
rows_end n y1 y2 = max (row_start n y1) (row_start n y2)

abbrev pub row_count : ℕ → ℕ → ℕ → ℕ
row_count n y1 y2 = min (y2 - y1) ((rows_end n y1 y2 - row_start n y1 + 29) / stride)

-- the pixels that n bytes hold
abbrev pub On : ℕ → ℕ → ℕ → Type 0
On n x y = (x < width) × (cell x y < n)

unfoldable pub pixel : List ℕ → Picture
pixel g x y = bit_of (get_or g (cell x y) 0) (x % 8)

-- a pixel that is asked for anywhere: what lies beyond the framebuffer is white
unfoldable pub black : List ℕ → Picture
black g x y = ltb x width && pixel g x y

-- n bytes that show p
unfoldable pub picture : Picture → ℕ → List ℕ
picture p n = bytes_of (λ m. p (m % width) (m / width)) 0 n

-- each pixel made anew of its place and what it was
unfoldable pub repaint : (ℕ → ℕ → Bool → Bool) → List ℕ → List ℕ
repaint f g = picture (λ x y. f x y (pixel g x y)) (length g)

-- THE MEANING OF EVERY PAINTER: inside the region the picture's pixels, outside it those that were there
abbrev pub put : Region → Picture → List ℕ → List ℕ
put s p g = repaint (λ x y o. cond (s x y) (p x y) o) g

-- a region in one colour
abbrev pub plain : Bool → Picture
plain c x y = c

abbrev pub fill : Region → Bool → List ℕ → List ℕ
fill s c g = put s (plain c) g
