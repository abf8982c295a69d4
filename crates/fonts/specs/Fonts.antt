-- A font in a file: nominal width, height, first and last character, then for each character the offset of its rows from the
-- file's start, high byte first, and its width. Rows are packed as a bitmap's. A byte behind the file's end reads as 0.
-- Assumes nothing.
use Rattle.std.specs.Prelude.{List, Bool, true, ◌&&◌, ℕ, zero, suc, ◌+◌, ◌-◌, ◌*◌, leb, length, get_or}
use Rattle.fonts.specs.declared.Entry.{Entry}
use Rattle.fonts.specs.Checks.{between}
use Rattle.fonts.specs.Bitmaps.{packed_bytes}

-- the widest glyph, as wide as the framebuffer
abbrev pub max_width : ℕ
max_width = 240

abbrev pub nominal_width : List ℕ → ℕ
nominal_width s = get_or s 0 0

abbrev pub height_of : List ℕ → ℕ
height_of s = get_or s 1 0

abbrev pub first_of : List ℕ → ℕ
first_of s = get_or s 2 0

abbrev pub last_of : List ℕ → ℕ
last_of s = get_or s 3 0

-- the characters from the first to the last
abbrev pub count_of : List ℕ → ℕ
count_of s = last_of s - first_of s + 1

-- entry number k of the table
unfoldable pub offset_at : List ℕ → ℕ → ℕ
offset_at s k = 256 * get_or s (4 + 3 * k) 0 + get_or s (4 + 3 * k + 1) 0

unfoldable pub width_at : List ℕ → ℕ → ℕ
width_at s k = get_or s (4 + 3 * k + 2) 0

unfoldable pub entry_of : List ℕ → ℕ → Entry
entry_of s k = record { offset = offset_at s k; width = width_at s k }

-- its width is 1 to 240, and its rows are inside the file
unfoldable pub is_entry : List ℕ → ℕ → Bool
is_entry s k = between 1 max_width (width_at s k) && leb (offset_at s k + packed_bytes (width_at s k) (height_of s)) (length s)

-- the n entries from number k on
unfoldable pub are_entries : ℕ → ℕ → List ℕ → Bool
are_entries zero k s = true
are_entries (suc n) k s = is_entry s k && are_entries n (k + 1) s

-- THE FILE IS A FONT, for a framebuffer of m rows: nominal width 1 to 240, height 1 to m, the first character at most the last,
-- header and table inside the file, and each entry by the rules
unfoldable pub is_font : ℕ → List ℕ → Bool
is_font m s =
    leb 4 (length s)
    && between 1 max_width (nominal_width s)
    && between 1 m (height_of s)
    && leb (first_of s) (last_of s)
    && leb (4 + 3 * count_of s) (length s)
    && are_entries (count_of s) 0 s
