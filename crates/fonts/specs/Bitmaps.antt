-- A bitmap in a file: width, height, then its rows, which follow on without gaps, highest bit first.
-- Assumes nothing.
use Rattle.std.specs.Prelude.{List, Bool, ◌&&◌, ℕ, ◌+◌, ◌*◌, ◌/◌, ltb, eqb, length, get_or}

-- the bytes that w by h bits take
unfoldable pub packed_bytes : ℕ → ℕ → ℕ
packed_bytes w h = (w * h + 7) / 8

abbrev pub bitmap_width : List ℕ → ℕ
bitmap_width s = get_or s 0 0

abbrev pub bitmap_height : List ℕ → ℕ
bitmap_height s = get_or s 1 0

-- THE FILE IS A BITMAP: width and height over 0, and then exactly its bytes
unfoldable pub is_bitmap : List ℕ → Bool
is_bitmap s =
    ltb 0 (bitmap_width s)
    && ltb 0 (bitmap_height s)
    && eqb (length s) (2 + packed_bytes (bitmap_width s) (bitmap_height s))
