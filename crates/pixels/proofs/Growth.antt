-- A region that grows column by column, and row by row: the invariants of the painters' loops.
-- Assumes nothing.
use mathlib.Core.Path.{◌≡◌, refl, sym, ap, ◌∙◌}
use mathlib.Core.Bool.{Bool, ◌&&◌, ◌||◌, and-false, and-or_distrib_left, and-or_distrib_right}
use mathlib.Core.List.{List}
use Prim.Native.Nat.{ℕ, ◌+◌, ◌<◌, ◌≤◌, max}
use native.Mathlib.Omega.{arith}
use lib.Dec.{eqb}
use lib.ListN.{length}
use Rattle.pixels.specs.Framebuffer.{Picture, put, fill}
use Rattle.pixels.specs.Regions.{within, point, span, box}
use Rattle.pixels.proofs.Pictures.{Bytes}
use Rattle.pixels.proofs.Painting.{put_same, put_region, put_off, put_put, length-repaint}
use Rattle.pixels.proofs.Tests.{and_one, and_two}
use Rattle.pixels.proofs.Intervals.{within_none, within_more, within_join, within_true, point_true}
use borrow.Author.Tests.{eqb-true}

-- one pixel of the picture p
pub put_point : (x y : ℕ) (c : Bool) (p : Picture) (g : List ℕ) → c ≡ p x y → fill (point x y) c g ≡ put (point x y) p g
put_point x y c p g e =
    put_same (point x y) (point x y) (λ u v. c) p g (λ u v on. refl) (λ u v on k. let t = point_true x y u v k in e ∙ rw (t.0, t.1))

-- columns x up to e after those up to x
span_joined : (x1 x e y : ℕ) (p q : Picture) (g : List ℕ) → x1 ≤ x → x ≤ e → ((u : ℕ) → x ≤ u → u < e → q u y ≡ p u y)
    → put (span x e y) q (put (span x1 x y) p g) ≡ put (span x1 e y) p g
span_joined x1 x e y p q g h l f =
    put_same (span x e y) (span x e y) q p (put (span x1 x y) p g) (λ u v on. refl)
    (λ u v on t. let b = within_true x e u (and_one (within x e u) (eqb v y) t) in
    let k = eqb-true v y (and_two (within x e u) (eqb v y) t) in rw k (f u b.0 b.1))
    ∙ put_put (span x1 x y) (span x e y) p g
    ∙ put_region (λ u v. span x1 x y u v || span x e y u v) (span x1 e y) p g
    (λ u v on. sym (and-or_distrib_right (within x1 x u) (within x e u) (eqb v y)) ∙ rw (within_join x1 x e u h l))

-- a row painted up to column x, on the way from x1 to x2
pub record SpanPainted (x1 x2 y x : ℕ) (p : Picture) (g₀ g : List ℕ) : Type 0 where
  pub low : x1 ≤ x
  pub high : x ≤ max x1 x2
  pub long : length g ≡ length g₀
  pub shows : g ≡ put (span x1 x y) p g₀

module _ {x1 x2 y : ℕ} {p : Picture} {g₀ : List ℕ} where
  -- several columns at once, whose picture agrees with p
  pub span_run : {x e : ℕ} {g h : List ℕ} (q : Picture) → SpanPainted x1 x2 y x p g₀ g → x ≤ e → e ≤ x2 → h ≡ put (span x e y) q g
      → ((u : ℕ) → x ≤ u → u < e → q u y ≡ p u y) → SpanPainted x1 x2 y e p g₀ h
  span_run {x} {e} {g} {h} q s l m d f = record { low = omega (arith, s.low); high = omega arith; long = ap length all ∙ length-repaint _ g₀; shows = all }
    where
      all : h ≡ put (span x1 e y) p g₀
      all = d ∙ ap (put (span x e y) q) s.shows ∙ span_joined x1 x e y p q g₀ s.low l f

-- columns f of the rows from y on: of none, and of one more
rows_none : (f : ℕ → Bool) (y : ℕ) (p : Picture) (g : List ℕ) → Bytes g → g ≡ put (λ u v. f u && within y y v) p g
rows_none f y p g b = put_off (λ u v. f u && within y y v) p g b (λ u v on. rw (within_none y v) (and-false (f u)))

rows_more : (f : ℕ → Bool) (y1 y : ℕ) (p : Picture) (g : List ℕ) → y1 ≤ y
    → put (λ u v. f u && eqb v y) p (put (λ u v. f u && within y1 y v) p g) ≡ put (λ u v. f u && within y1 (y + 1) v) p g
rows_more f y1 y p g h =
    put_put (λ u v. f u && within y1 y v) (λ u v. f u && eqb v y) p g
    ∙ put_region (λ u v. (f u && within y1 y v) || (f u && eqb v y)) (λ u v. f u && within y1 (y + 1) v) p g
    (λ u v on. sym (and-or_distrib_left (f u) (within y1 y v) (eqb v y)) ∙ rw (within_more y1 y v h))

pub box_none : (x1 x2 y : ℕ) (p : Picture) (g : List ℕ) → Bytes g → g ≡ put (box x1 x2 y y) p g
box_none x1 x2 y p g b = rows_none (within x1 x2) y p g b

pub box_more : (x1 x2 y1 y : ℕ) (p : Picture) (g : List ℕ) → y1 ≤ y
    → put (span x1 x2 y) p (put (box x1 x2 y1 y) p g) ≡ put (box x1 x2 y1 (y + 1)) p g
box_more x1 x2 y1 y p g h = rows_more (within x1 x2) y1 y p g h

-- columns f of the rows painted up to row y
pub record ColumnsPainted (f : ℕ → Bool) (y : ℕ) (p : Picture) (g₀ g : List ℕ) : Type 0 where
  pub long : length g ≡ length g₀
  pub shows : g ≡ put (λ u v. f u && within 0 y v) p g₀

module _ {f : ℕ → Bool} {p : Picture} {g₀ : List ℕ} where
  pub columns_start : Bytes g₀ → ColumnsPainted f 0 p g₀ g₀
  columns_start b = record { long = refl; shows = rows_none f 0 p g₀ b }

  pub columns_step : {y : ℕ} {g h : List ℕ} → ColumnsPainted f y p g₀ g → h ≡ put (λ u v. f u && eqb v y) p g → ColumnsPainted f (y + 1) p g₀ h
  columns_step {y} {g} {h} s e = record { long = ap length all ∙ length-repaint _ g₀; shows = all }
    where
      all : h ≡ put (λ u v. f u && within 0 (y + 1) v) p g₀
      all = e ∙ ap (put (λ u v. f u && eqb v y) p) s.shows ∙ rows_more f 0 y p g₀ (omega arith)

  pub columns_end : {y n : ℕ} {g : List ℕ} → ColumnsPainted f y p g₀ g → y ≡ n → g ≡ put (λ u v. f u && within 0 n v) p g₀
  columns_end s e = s.shows ∙ ap (λ (n : ℕ). put (λ u v. f u && within 0 n v) p g₀) e

-- the first n rows painted up to row y
pub record RowsPainted (x1 x2 n y : ℕ) (p : Picture) (g₀ g : List ℕ) : Type 0 where
  pub high : y ≤ n
  pub long : length g ≡ length g₀
  pub shows : g ≡ put (box x1 x2 0 y) p g₀

module _ {x1 x2 n : ℕ} {p : Picture} {g₀ : List ℕ} where
  of_columns : {y : ℕ} {g : List ℕ} → y ≤ n → ColumnsPainted (within x1 x2) y p g₀ g → RowsPainted x1 x2 n y p g₀ g
  of_columns h d = record { high = h; long = d.long; shows = d.shows }

  to_columns : {y : ℕ} {g : List ℕ} → RowsPainted x1 x2 n y p g₀ g → ColumnsPainted (within x1 x2) y p g₀ g
  to_columns s = record { long = s.long; shows = s.shows }

  pub rows_start : Bytes g₀ → RowsPainted x1 x2 n 0 p g₀ g₀
  rows_start b = of_columns (omega arith) (columns_start b)

  pub rows_step : {y : ℕ} {g h : List ℕ} → RowsPainted x1 x2 n y p g₀ g → y < n → h ≡ put (span x1 x2 y) p g → RowsPainted x1 x2 n (y + 1) p g₀ h
  rows_step s l e = of_columns (omega arith) (columns_step (to_columns s) e)

  pub rows_end_lem : {y : ℕ} {g : List ℕ} → RowsPainted x1 x2 n y p g₀ g → n ≤ y → g ≡ put (box x1 x2 0 n) p g₀
  rows_end_lem {y} s l = let e : y ≡ n = omega (arith, s.high) in columns_end (to_columns s) e
