-- Worked examples, by computing.
-- Assumes nothing.
use mathlib.Core.Path.{◌≡◌, refl}
use mathlib.Core.Bool.{true, false}
use mathlib.Core.List.{List, [], ◌∷◌}
use Prim.Native.Nat.{ℕ}
use lib.ListN.{take}
use Rattle.fonts.specs.Checks.{between, check_of, check_number}
use Rattle.fonts.specs.Bitmaps.{packed_bytes, is_bitmap}
use Rattle.fonts.specs.Fonts.{offset_at, width_at, entry_of, is_entry, are_entries, is_font}

-- characters 65 and 66, 5 high: 3 wide at 10 and 4 wide at 12
abbrev pub small : List ℕ
small = 3 ∷ 5 ∷ 65 ∷ 66 ∷ 0 ∷ 10 ∷ 3 ∷ 0 ∷ 12 ∷ 4 ∷ 87 ∷ 218 ∷ 116 ∷ 99 ∷ 31 ∷ []

pub small_good : is_font 5 small ≡ true
unfolding is_font are_entries is_entry offset_at width_at packed_bytes between
small_good = refl

-- higher than the framebuffer
pub small_high : is_font 4 small ≡ false
unfolding is_font are_entries is_entry offset_at width_at packed_bytes between
small_high = refl

-- without its last byte
pub small_cut : is_font 5 (take 14 small) ≡ false
unfolding is_font are_entries is_entry offset_at width_at packed_bytes between
small_cut = refl

-- the numbers of the two answers: none, and 23
pub small_numbers : (check_number (check_of (is_font 5 small)) ≡ 0) × (check_number (check_of (is_font 4 small)) ≡ 23)
unfolding is_font are_entries is_entry offset_at width_at packed_bytes between
small_numbers = (refl, refl)

pub small_entry : entry_of small 1 ≡ record { offset = 12; width = 4 }
unfolding entry_of offset_at width_at
small_entry = refl

-- 5 by 4 in 20 bits
pub bits : is_bitmap (5 ∷ 4 ∷ 252 ∷ 99 ∷ 240 ∷ []) ≡ true
unfolding is_bitmap packed_bytes
bits = refl

pub bits_short : is_bitmap (5 ∷ 4 ∷ 252 ∷ 99 ∷ []) ≡ false
unfolding is_bitmap packed_bytes
bits_short = refl

pub bits_long : is_bitmap (5 ∷ 4 ∷ 252 ∷ 99 ∷ 240 ∷ 0 ∷ []) ≡ false
unfolding is_bitmap packed_bytes
bits_long = refl
