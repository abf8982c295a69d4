-- The rules of the built-in font, each by one test over its 95 glyphs or their pairs.
-- Assumes nothing.
use mathlib.Core.Path.{◌≡◌, refl, sym, ap, ◌∙◌}
use mathlib.Core.List.{List, [], ◌∷◌}
use mathlib.Core.Bool.{Bool, true, false, ◌&&◌}
use Prim.Native.Nat.{ℕ, zero, suc, ◌+◌, ◌-◌, ◌*◌, ◌/◌, ◌≤◌, ◌<◌}
use native.Mathlib.Omega.{arith}
use lib.Dec.{eqb}
use lib.ListN.{length, get_or, drop, get_or-eq_default}
use lib.Seq.{drop-drop}
use borrow.Author.Tests.{eqb-true, eqb-false}
use Rattle.fonts.specs.Checks.{between}
use Rattle.fonts.specs.Bitmaps.{packed_bytes}
use Rattle.fonts.specs.Fonts.{nominal_width, height_of, first_of, last_of, offset_at, width_at, is_entry, are_entries, is_font}
use Rattle.fonts.proofs.Laws.{and_left, and_right, font_taller}
use Rattle.std.specs.Prelude.{Some}
use Rattle.opened_font.specs.Glyphs.{glyph_of}
use Rattle.opened_font.proofs.Laws.{glyph, glyph_there}
use Rattle.builtin_font.specs.Table.{table}
use Rattle.builtin_font.specs.Shapes.{five_bytes, bits_at, shape_at, digit_shape, spare_at, from_last, pixel_of, differing, distance}
use Rattle.builtin_font.proofs.Tests.{all_below, below, far_from, all_apart, places, no_distance}

pub table_length : length table ≡ 764
unfolding table
table_length = refl

pub behind : (i : ℕ) → 764 ≤ i → 0 ≡ get_or table i 0
behind i h = sym (get_or-eq_default table 0 {n = i} (omega (arith, table_length)))

-- ---- 5 by 7, characters 32 to 126

pub width_is : nominal_width table ≡ 5
unfolding table
width_is = refl

pub height_is : height_of table ≡ 7
unfolding table
height_is = refl

pub first_is : first_of table ≡ 32
unfolding table
first_is = refl

pub last_is : last_of table ≡ 126
unfolding table
last_is = refl

pub five : packed_bytes 5 7 ≡ 5
unfolding packed_bytes
five = refl

-- ---- the same check as any other font

pub font_7 : is_font 7 table ≡ true
unfolding table is_font are_entries is_entry offset_at width_at packed_bytes between
font_7 = refl

pub font : (m : ℕ) → 7 ≤ m → is_font m table ≡ true
font m h = font_taller 7 m table h font_7

-- ---- offsets, widths and spare bits

abbrev right : ℕ → Bool
right k = eqb (offset_at table k) (289 + 5 * k) && eqb (width_at table k) 5 && eqb (spare_at k) 0

all_right : all_below 95 right ≡ true
unfolding table all_below offset_at width_at bits_at five_bytes
all_right = refl

pub record Right (k : ℕ) : Type 0 where
  pub offset : offset_at table k ≡ 289 + 5 * k
  pub width : width_at table k ≡ 5
  pub spare : spare_at k ≡ 0

pub right_at : (k : ℕ) → k < 95 → Right k
right_at k h =
    let a = eqb (offset_at table k) (289 + 5 * k) in
    let b = eqb (width_at table k) 5 in
    let c = eqb (spare_at k) 0 in
    let t : (a && b && c) ≡ true = below 95 right all_right k h in
    record {
      offset = eqb-true (offset_at table k) (289 + 5 * k) (and_left a b (and_left (a && b) c t));
      width = eqb-true (width_at table k) 5 (and_right a b (and_left (a && b) c t));
      spare = eqb-true (spare_at k) 0 (and_right (a && b) c t);
    }

-- ---- the fifth column is white

abbrev is_white : ℕ → ℕ → Bool
is_white k y = eqb (pixel_of (shape_at k) 4 y) 0

all_white : all_below 95 (λ k. all_below 7 (is_white k)) ≡ true
unfolding table all_below bits_at five_bytes from_last
all_white = refl

pub white_column : (k y : ℕ) → k < 95 → y < 7 → pixel_of (shape_at k) 4 y ≡ 0
white_column k y h l =
    eqb-true (pixel_of (shape_at k) 4 y) 0 (below 7 (is_white k) (below 95 (λ (k : ℕ). all_below 7 (is_white k)) all_white k h) y l)

-- ---- each two of the 95 differ in two pixels or more, each two digits in four or more

-- n shapes, five bytes each
unfoldable pub shapes : ℕ → List ℕ → List ℕ
shapes zero l = []
shapes (suc n) l = five_bytes l / 32 ∷ shapes n (drop 5 l)

length-shapes : (n : ℕ) (l : List ℕ) → length (shapes n l) ≡ n
unfolding shapes
length-shapes zero l = refl
length-shapes (suc n) l = ap suc (length-shapes n (drop 5 l))

shape_is : (n : ℕ) (l : List ℕ) (k : ℕ) → k < n → get_or (shapes n l) k 0 ≡ five_bytes (drop (5 * k) l) / 32
unfolding shapes
shape_is zero l k h = absurd (omega arith)
shape_is (suc n) l zero h = refl
shape_is (suc n) l (suc k) h =
    let e : 5 * suc k ≡ 5 + 5 * k = omega arith in
    shape_is n (drop 5 l) k (omega arith) ∙ rw (e, drop-drop)

-- n glyphs from glyph number a on
abbrev glyphs : ℕ → ℕ → List ℕ
glyphs n a = shapes n (drop (289 + 5 * a) table)

drawn : (n a k : ℕ) → k < n → get_or (glyphs n a) k 0 ≡ shape_at (a + k)
unfolding bits_at
drawn n a k h =
    let e : 289 + 5 * (a + k) ≡ 289 + 5 * a + 5 * k = omega arith in
    shape_is n (drop (289 + 5 * a) table) k h ∙ rw (e, drop-drop)

pair : (m n a : ℕ) → all_apart m (glyphs n a) ≡ true → (i j : ℕ) → i < n → j < n → (i ≡ j → ⊥) → m ≤ distance (shape_at (a + i)) (shape_at (a + j))
pair m n a t i j h k d =
    let e = length-shapes n (drop (289 + 5 * a) table) in
    rw (drawn n a i h, drawn n a j k) at (places m (glyphs n a) t i j (omega arith) (omega arith) d)

all_apart_lem : all_apart 2 (glyphs 95 0) ≡ true
unfolding table all_apart far_from shapes five_bytes differing from_last
all_apart_lem = refl

pub apart : (i j : ℕ) → i < 95 → j < 95 → (i ≡ j → ⊥) → 2 ≤ distance (shape_at i) (shape_at j)
apart i j h k d = rw (from_0 i, from_0 j) at (pair 2 95 0 all_apart_lem i j h k d)
  where
    from_0 : (n : ℕ) → 0 + n ≡ n
    from_0 n = omega arith

all_digits_apart : all_apart 4 (glyphs 10 16) ≡ true
unfolding table all_apart far_from shapes five_bytes differing from_last
all_digits_apart = refl

pub digits_apart : (d e : ℕ) → d < 10 → e < 10 → (d ≡ e → ⊥) → 4 ≤ distance (digit_shape d) (digit_shape e)
digits_apart d e h k n = pair 4 10 16 all_digits_apart d e h k n

-- no two glyphs have one shape
pub different : (i j : ℕ) → i < 95 → j < 95 → shape_at i ≡ shape_at j → i ≡ j
different i j h k e = one_place i j h k e (eqb i j) refl
  where
    one_place : (i j : ℕ) → i < 95 → j < 95 → shape_at i ≡ shape_at j → (t : Bool) → eqb i j ≡ t → i ≡ j
    one_place i j h k e true q = eqb-true i j q
    one_place i j h k e false q =
        let a = apart i j h k (eqb-false i j q) in
        let z : distance (shape_at i) (shape_at j) ≡ 0 = rw (e, no_distance (shape_at j)) in
        absurd (omega (arith, a, z))

-- E is 14 pixels from a blank shape: 4, 1, 3, 1, 1 and 4, a row each
black_in_E : distance 0 (shape_at 37) ≡ 14
unfolding table bits_at five_bytes differing from_last
black_in_E = refl

-- ---- only character 32 is blank

pub blank : shape_at 0 ≡ 0
unfolding table bits_at five_bytes
blank = refl

pub only_blank : (k : ℕ) → k < 95 → shape_at k ≡ 0 → k ≡ 0
only_blank k h e = different k 0 h (omega arith) (e ∙ sym blank)

-- ---- the characters

pub glyph_of_lem : (c : ℕ) → 32 ≤ c → c ≤ 126 → glyph_of table c ≡ Some (glyph (289 + 5 * (c - 32)) 5 7)
glyph_of_lem c h k =
    let r = right_at (c - 32) (omega arith) in
    let a : first_of table ≤ c = omega (arith, first_is) in
    let b : c ≤ last_of table = omega (arith, last_is) in
    let g : glyph_of table c ≡ Some (glyph (offset_at table (c - 32)) (width_at table (c - 32)) (height_of table)) = rw first_is at (glyph_there table c a b) in
    g ∙ rw (r.offset, r.width, height_is)
