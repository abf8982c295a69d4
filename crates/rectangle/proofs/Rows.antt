-- Rows painted one after another, each from its first byte to its last.
-- Assumes nothing.
use mathlib.Core.Path.{◌≡◌, refl, ◌∙◌}
use mathlib.Core.Bool.{Bool, true, false, ◌&&◌, ◌||◌, and-false}
use mathlib.Core.List.{List}
use Prim.Native.Nat.{ℕ, ◌+◌, ◌*◌, ◌/◌, ◌%◌, ◌<◌, ◌≤◌}
use native.Mathlib.Omega.{arith}
use lib.Dec.{eqb}
use lib.ListN.{length}
use borrow.Author.Tests.{eq-eqb, eqb-true}
use Rattle.pixels.specs.Framebuffer.{On, bit_of, cell, fill, plain}
use Rattle.pixels.specs.Regions.{within}
use Rattle.pixels.proofs.Tests.{iff, and_one, and_two}
use Rattle.pixels.proofs.Pictures.{Bytes}
use Rattle.pixels.proofs.Painting.{put_region}
use Rattle.pixels.proofs.Intervals.{within_yes, within_true}
use Rattle.pixels.proofs.Growth.{ColumnsPainted, columns_start, columns_step}
use Rattle.canvas.specs.Canvas.{masked}
use Rattle.rectangle.specs.declared.Ends.{Ends}
use Rattle.rectangle.specs.Ends.{whole_bytes, byte_columns, ends_columns, in_row, in_rows, in_all}
use Rattle.rectangle.proofs.Runs.{more}

-- ---- the bytes of row y

-- a mask on its byte i
byte_row : (i m y n u v : ℕ) → i < 30 → On n u v → masked (30 * y + i) m u v ≡ in_row (byte_columns i m) y u v
unfolding byte_columns
byte_row i m y n u v h on =
    iff (masked (30 * y + i) m u v) (in_row (byte_columns i m) y u v)
    (λ t. let q = eqb-true (cell u v) (30 * y + i) (and_one (eqb (cell u v) (30 * y + i)) (bit_of m (u % 8)) t) in
    rw (eq-eqb (u / 8) i (omega (arith, on.0)), and_two (eqb (cell u v) (30 * y + i)) (bit_of m (u % 8)) t, eq-eqb v y (omega (arith, on.0))))
    (λ t. let p = and_one (byte_columns i m u) (eqb v y) t in
    let q = eqb-true (u / 8) i (and_one (eqb (u / 8) i) (bit_of m (u % 8)) p) in
    let r = eqb-true v y (and_two (byte_columns i m u) (eqb v y) t) in
    rw (eq-eqb (cell u v) (30 * y + i) (omega arith), and_two (eqb (u / 8) i) (bit_of m (u % 8)) p))

-- its bytes from i up to j
bytes_row : (i j y n u v : ℕ) → j < 30 → On n u v → whole_bytes (30 * y + i) (30 * y + j) u v ≡ in_row (λ x. within i j (x / 8)) y u v
bytes_row i j y n u v h on =
    iff (whole_bytes (30 * y + i) (30 * y + j) u v) (in_row (λ x. within i j (x / 8)) y u v)
    (λ t. let p = within_true (30 * y + i) (30 * y + j) (cell u v) t in
    rw (within_yes i j (u / 8) (omega (arith, on.0)) (omega (arith, on.0)), eq-eqb v y (omega (arith, on.0))))
    (λ t. let p = within_true i j (u / 8) (and_one (within i j (u / 8)) (eqb v y) t) in
    let r = eqb-true v y (and_two (within i j (u / 8)) (eqb v y) t) in
    within_yes (30 * y + i) (30 * y + j) (cell u v) (omega arith) (omega arith))

-- both ends and the bytes between them
pub row_painted : (e : Ends) (y a b : ℕ) (c : Bool) (g g1 g2 g3 : List ℕ) → e.first < e.last → e.last < 30 → a ≡ 30 * y + e.first → b ≡ 30 * y + e.last
    → g1 ≡ fill (masked a e.left) c g → g2 ≡ fill (whole_bytes (a + 1) b) c g1 → g3 ≡ fill (masked b e.right) c g2
    → g3 ≡ fill (in_row (ends_columns e) y) c g
unfolding ends_columns
row_painted e y a b c g g1 g2 g3 h l ea eb p q r =
    more (λ u v. masked a e.left u v || whole_bytes (a + 1) b u v) (masked b e.right) c g g2 g3 (more (masked a e.left) (whole_bytes (a + 1) b) c g g1 g2 p q) r
    ∙ put_region (λ u v. (masked a e.left u v || whole_bytes (a + 1) b u v) || masked b e.right u v) (in_row (ends_columns e) y) (plain c) g
    (λ u v on. let s : 30 * y + e.first + 1 ≡ 30 * y + (e.first + 1) = omega arith in
    rw (ea, eb, s, byte_row e.first e.left y (length g) u v (omega arith) on, bytes_row (e.first + 1) e.last y (length g) u v l on, byte_row e.last e.right y (length g) u v l on)
    (tidy (byte_columns e.first e.left u) (within (e.first + 1) e.last (u / 8)) (byte_columns e.last e.right u) (eqb v y)))
  where
    tidy : (p q r s : Bool) → (((p && s) || (q && s)) || (r && s)) ≡ ((p || q || r) && s)
    tidy true q r true = refl
    tidy true q r false = rw (and-false q, and-false r)
    tidy false true r true = refl
    tidy false true r false = and-false r
    tidy false false r s = refl

-- ---- the rows

-- no row is left
pub columns_all : {f : ℕ → Bool} {y : ℕ} {c : Bool} {g₀ g : List ℕ} → ColumnsPainted f y (plain c) g₀ g → ((u v : ℕ) → On (length g₀) u v → f u ≡ true → v < y)
    → g ≡ fill (in_all f) c g₀
columns_all {f} {y} {c} {g₀} s h =
    s.shows ∙ put_region (in_rows f y) (in_all f) (plain c) g₀ (λ u v on. iff (in_rows f y u v) (f u) (and_one (f u) (within 0 y v))
    (λ t. rw (t, within_yes 0 y v (omega arith) (h u v on t))))

-- ---- one byte of every row

-- its number is `at` in row y
pub record Column (i m at : ℕ) (c : Bool) (g₀ g : List ℕ) : Type 0 where
  pub y : ℕ
  pub place : at ≡ 30 * y + i
  pub above : ColumnsPainted (byte_columns i m) y (plain c) g₀ g
  pub long : length g ≡ length g₀

module _ {i m : ℕ} {c : Bool} {g₀ : List ℕ} where
  pub column_none : Bytes g₀ → Column i m i c g₀ g₀
  column_none b = record { y = 0; place = omega arith; above = columns_start b; long = refl }

  pub column_more : {at : ℕ} {g h : List ℕ} → i < 30 → Column i m at c g₀ g → h ≡ fill (masked at m) c g → Column i m (at + 30) c g₀ h
  column_more {at} {g} {h} l s e = record { y = s.y + 1; place = omega (arith, s.place); above = all; long = all.long }
    where
      all : ColumnsPainted (byte_columns i m) (s.y + 1) (plain c) g₀ h
      all =
          columns_step s.above (e ∙ rw s.place (put_region (masked (30 * s.y + i) m) (in_row (byte_columns i m) s.y) (plain c) g
          (λ u v on. byte_row i m s.y (length g) u v l on)))

  -- the same by rows
  pub column_first : Bytes g₀ → Column i m (30 * 0 + i) c g₀ g₀
  column_first b = record { y = 0; place = omega arith; above = columns_start b; long = refl }

  pub column_next : (y : ℕ) {g h : List ℕ} → i < 30 → Column i m (30 * y + i) c g₀ g → h ≡ fill (masked (30 * y + i) m) c g → Column i m (30 * (y + 1) + i) c g₀ h
  column_next y l s e = rw (next y) (column_more l s e)
    where
      next : (y : ℕ) → 30 * (y + 1) + i ≡ 30 * y + i + 30
      next y = omega arith

  pub column_all : {at : ℕ} {g : List ℕ} → Column i m at c g₀ g → length g ≤ at → g ≡ fill (in_all (byte_columns i m)) c g₀
  unfolding byte_columns
  column_all {at} {g} s l =
      columns_all s.above
      (λ u v on t. let q = eqb-true (u / 8) i (and_one (eqb (u / 8) i) (bit_of m (u % 8)) t) in omega (arith, on.1, s.place, s.long))
