-- What a good check means: each entry of a good font has its rows inside the file, and a good bitmap is its rows.
-- Assumes nothing.
use mathlib.Core.Path.{◌≡◌, refl}
use mathlib.Core.List.{List}
use mathlib.Core.Bool.{Bool, true, false, ◌&&◌}
use Prim.Native.Nat.{ℕ, zero, suc, ◌+◌, ◌*◌, ◌≤◌, ◌<◌}
use native.Mathlib.Omega.{arith}
use lib.Dec.{ltb, leb, eqb}
use lib.ListN.{length, drop, length-drop}
use borrow.Author.Tests.{le-leb, leb-true, ltb-true, eqb-true}
use Rattle.std.specs.Prelude.{Result, Ok, Err, ⊤}
use Rattle.fonts.specs.declared.Malformed.{Malformed}
use Rattle.fonts.specs.Checks.{between, check_of}
use Rattle.fonts.specs.Bitmaps.{packed_bytes, bitmap_width, bitmap_height, is_bitmap}
use Rattle.fonts.specs.Fonts.{nominal_width, height_of, first_of, last_of, count_of, offset_at, width_at, is_entry, are_entries, is_font, max_width}

pub and_left : (a b : Bool) → (a && b) ≡ true → a ≡ true
and_left true b e = refl
and_left false b e = e

pub and_right : (a b : Bool) → (a && b) ≡ true → b ≡ true
and_right true b e = e
and_right false b e = let z : ◌≡◌ {A = ℕ} 0 1 = cc in absurd (omega arith)

-- what an answer says of the test
pub good_is : (r : Result ⊤ Malformed) (b : Bool) → r ≡ check_of b → r ≡ Ok tt → b ≡ true
good_is r true e h = refl
good_is r false e h = cc

pub malformed_is : (r : Result ⊤ Malformed) (b : Bool) (m : Malformed) → r ≡ check_of b → r ≡ Err m → b ≡ false
malformed_is r true m e h = cc
malformed_is r false m e h = refl

pub record Within (a b n : ℕ) : Type 0 where
  pub from : a ≤ n
  pub to : n ≤ b

between_is : (a b n : ℕ) → between a b n ≡ true → Within a b n
unfolding between
between_is a b n h = record { from = leb-true a n (and_left (leb a n) (leb n b) h); to = leb-true n b (and_right (leb a n) (leb n b) h) }

is_between_lem : (a b n : ℕ) → Within a b n → between a b n ≡ true
unfolding between
is_between_lem a b n h = rw (le-leb a n h.from, le-leb n b h.to)

-- ---- entries

-- w by h bits from offset o on are inside the file
pub record Inside (s : List ℕ) (o w : ℕ) : Type 0 where
  pub width : Within 1 max_width w
  pub ends : o + packed_bytes w (height_of s) ≤ length s

entry_inside : (s : List ℕ) (k : ℕ) → is_entry s k ≡ true → Inside s (offset_at s k) (width_at s k)
unfolding is_entry
entry_inside s k h =
    let b = between 1 max_width (width_at s k) in
    let c = leb (offset_at s k + packed_bytes (width_at s k) (height_of s)) (length s) in
    record {
      width = between_is 1 max_width (width_at s k) (and_left b c h);
      ends = leb-true (offset_at s k + packed_bytes (width_at s k) (height_of s)) (length s) (and_right b c h);
    }

entries_each : (n k : ℕ) (s : List ℕ) → are_entries n k s ≡ true → (i : ℕ) → i < n → is_entry s (k + i) ≡ true
unfolding are_entries
entries_each zero k s h i l = absurd (omega arith)
entries_each (suc n) k s h zero l = let e : k + 0 ≡ k = omega arith in rw e (and_left (is_entry s k) (are_entries n (k + 1) s) h)
entries_each (suc n) k s h (suc i) l =
    let e : k + suc i ≡ k + 1 + i = omega arith in
    rw e (entries_each n (k + 1) s (and_right (is_entry s k) (are_entries n (k + 1) s) h) i (omega arith))

-- ---- a good font

pub record Font (m : ℕ) (s : List ℕ) : Type 0 where
  pub nominal : Within 1 max_width (nominal_width s)
  pub height : Within 1 m (height_of s)
  pub order : first_of s ≤ last_of s
  pub table : 4 + 3 * count_of s ≤ length s
  pub entries : (k : ℕ) → k < count_of s → Inside s (offset_at s k) (width_at s k)

module _ (m : ℕ) (s : List ℕ) (h : is_font m s ≡ true) where
  pub font : Font m s
  unfolding is_font
  font =
      let a = leb 4 (length s) in
      let b = between 1 max_width (nominal_width s) in
      let c = between 1 m (height_of s) in
      let d = leb (first_of s) (last_of s) in
      let e = leb (4 + 3 * count_of s) (length s) in
      let f = are_entries (count_of s) 0 s in
      let h5 = and_left (a && b && c && d && e) f h in
      let h4 = and_left (a && b && c && d) e h5 in
      let h3 = and_left (a && b && c) d h4 in
      let h2 = and_left (a && b) c h3 in
      record {
        nominal = between_is 1 max_width (nominal_width s) (and_right a b h2);
        height = between_is 1 m (height_of s) (and_right (a && b) c h3);
        order = leb-true (first_of s) (last_of s) (and_right (a && b && c) d h4);
        table = leb-true (4 + 3 * count_of s) (length s) (and_right (a && b && c && d) e h5);
        entries = λ k l. entry_inside s k (rw (zero_plus k) at (entries_each (count_of s) 0 s (and_right (a && b && c && d && e) f h) k l));
      }
    where
      zero_plus : (k : ℕ) → 0 + k ≡ k
      zero_plus k = omega arith

-- a good font is one for any taller framebuffer
pub font_taller : (m n : ℕ) (s : List ℕ) → m ≤ n → is_font m s ≡ true → is_font n s ≡ true
unfolding is_font
font_taller m n s l h =
    let q = (font m s h).height in
    let x : between 1 m (height_of s) ≡ true = is_between_lem 1 m (height_of s) q in
    let y : between 1 n (height_of s) ≡ true = is_between_lem 1 n (height_of s) (record { from = q.from; to = omega (arith, q.to) }) in
    rw y (rw x at h)

-- ---- a good bitmap

pub record Bitmap (s : List ℕ) : Type 0 where
  pub wide : 0 < bitmap_width s
  pub high : 0 < bitmap_height s
  pub size : length s ≡ 2 + packed_bytes (bitmap_width s) (bitmap_height s)
  -- its rows start at byte 2 and end with the file
  pub rows : length (drop 2 s) ≡ packed_bytes (bitmap_width s) (bitmap_height s)

pub bitmap : (s : List ℕ) → is_bitmap s ≡ true → Bitmap s
unfolding is_bitmap
bitmap s h =
    let a = ltb 0 (bitmap_width s) in
    let b = ltb 0 (bitmap_height s) in
    let c = eqb (length s) (2 + packed_bytes (bitmap_width s) (bitmap_height s)) in
    let z = eqb-true (length s) (2 + packed_bytes (bitmap_width s) (bitmap_height s)) (and_right (a && b) c h) in
    record {
      wide = ltb-true 0 (bitmap_width s) (and_left a b (and_left (a && b) c h));
      high = ltb-true 0 (bitmap_height s) (and_right a b (and_left (a && b) c h));
      size = z;
      rows = omega (arith, z, length-drop 2 s);
    }
