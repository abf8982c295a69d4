-- Strips of up to eight columns: rows of a bitmap, painted one after another, and a single byte on one row.
-- Assumes nothing.
use mathlib.Core.Path.{◌≡◌, refl, sym, ap, ◌∙◌, subst}
use mathlib.Core.Bool.{◌||◌, and-false, and-or_distrib_left, and-or_distrib_right}
use mathlib.Core.List.{List}
use Prim.Native.Nat.{ℕ, ◌+◌, ◌-◌, ◌*◌, ◌/◌, ◌%◌, ◌^◌, ◌<◌, ◌≤◌, min}
use native.Mathlib.Omega.{arith}
use native.Mathlib.Nat.{sub-zero, add-mul}
use native.Mathlib.Decide.{ℕ_discrete}
use lib.Dec.{eqb}
use lib.ListN.{length, get_or}
use borrow.Author.Tests.{ne_eqb, eqb-true}
use borrow.Rule.Slice.PartMut.{put_mid, mid_of}
use Rattle.pixels.specs.Framebuffer.{cell, put, width}
use Rattle.pixels.specs.Regions.{within, span, box}
use Rattle.pixels.proofs.Tests.{and_one, and_two}
use Rattle.pixels.proofs.Bits.{bit_byte}
use Rattle.pixels.proofs.Pictures.{Bytes}
use Rattle.pixels.proofs.Painting.{put_same, put_region, put_off, put_put, bytes_repaint, length-repaint}
use Rattle.pixels.proofs.Intervals.{within_iff, within_true, within_none, within_cut, within_join}
use Rattle.pixels.proofs.Growth.{box_none, box_more}
use Rattle.canvas.specs.declared.Rows.{Rows}
use Rattle.canvas.specs.Canvas.{RowsAre}
use Rattle.canvas.proofs.Lent.{lent_box}
use Rattle.spans.specs.Bits.{packed_bit, window_of, bits_from, cell_end}
use Rattle.bitmap.specs.Bitmaps.{packed, packed_box}
use Rattle.bitmap.specs.Pairs.{swapped, column_mask, put_pair, packed_from, RowsReached}
use Rattle.bitmap.proofs.Pairs.{pair_painted, pair_window}

-- ---- the rows of a strip

-- a window of the bits is a row of them
window_bit : (bits : List ℕ) (first k b x y1 y w u v : ℕ) → b ≡ window_of bits k → k ≡ first + (y - y1) * w → v ≡ y → u - x < 8
    → bits_from x b u v ≡ packed_from first x y1 w bits u v
unfolding window_of bits_from packed_from
window_bit bits first k b x y1 y w u v eb ek ev l = rw (eb, ev, ← ek) (bit_byte (λ i. packed_bit bits (k + i)) (u - x) l)

rest_bit : (bits : List ℕ) (first x y w u v : ℕ) → y ≤ v → packed_from (first + y * w) x y w bits u v ≡ packed_from first x 0 w bits u v
unfolding packed_from
rest_bit bits first x y w u v l =
    let t : y + (v - y) ≡ v - 0 = omega arith in
    let z : y * w + (v - y) * w ≡ (v - 0) * w = sym (add-mul y (v - y) w) ∙ rw t in
    let q : first + y * w + (v - y) * w ≡ first + (v - 0) * w = omega arith in rw q

strip_bit : (bits : List ℕ) (x left y w u v : ℕ) → x ≤ left → left ≤ u → packed_from (left - x) left y w bits u v ≡ packed x y w bits u v
unfolding packed_from packed
strip_bit bits x left y w u v l m = let q : left - x + (v - y) * w + (u - left) ≡ (v - y) * w + (u - x) = omega arith in rw q

-- of rows y1 up to y2, those above row y painted; row y begins with bit k
pub record StripPainted (x1 x2 y1 y2 w first y k : ℕ) (bits g₀ g : List ℕ) : Type 0 where
  pub low : y1 ≤ y
  pub high : y ≤ y2
  pub at_bit : k ≡ first + (y - y1) * w
  pub bound : k ≤ first + 255 * (y - y1)
  pub long : length g ≡ length g₀
  pub shows : g ≡ put (box x1 x2 y1 y) (packed_from first x1 y1 w bits) g₀

module _ {x1 x2 y1 y2 w first : ℕ} {bits g₀ : List ℕ} where
  pub strip_start : Bytes g₀ → y1 ≤ y2 → StripPainted x1 x2 y1 y2 w first y1 first bits g₀ g₀
  strip_start b l =
      let z : y1 - y1 ≡ 0 = omega arith in
      record { low = omega arith; high = l; at_bit = rw z (omega arith); bound = omega arith; long = refl; shows = box_none x1 x2 y1 (packed_from first x1 y1 w bits) g₀ b }

  pub strip_step : {y k b : ℕ} {g h : List ℕ} → StripPainted x1 x2 y1 y2 w first y k bits g₀ g → y < y2 → x2 ≤ x1 + 8 → w < 256 → b ≡ window_of bits k
      → h ≡ put (span x1 x2 y) (bits_from x1 b) g → StripPainted x1 x2 y1 y2 w first (y + 1) (k + w) bits g₀ h
  strip_step {y} {k} {b} {g} {h} s l few hw eb d =
      record {
        low = omega (arith, s.low);
        high = omega arith;
        at_bit = (let z : y + 1 - y1 ≡ y - y1 + 1 = omega (arith, s.low) in rw z (omega (arith, s.at_bit)));
        bound = omega (arith, s.bound, s.low);
        long = ap length all ∙ length-repaint _ g₀;
        shows = all;
      }
    where
      all : h ≡ put (box x1 x2 y1 (y + 1)) (packed_from first x1 y1 w bits) g₀
      all =
          d ∙ put_same (span x1 x2 y) (span x1 x2 y) (bits_from x1 b) (packed_from first x1 y1 w bits) g (λ u v on. refl)
          (λ u v on t. let c = within_true x1 x2 u (and_one (within x1 x2 u) (eqb v y) t) in
          window_bit bits first k b x1 y1 y w u v eb s.at_bit (eqb-true v y (and_two (within x1 x2 u) (eqb v y) t)) (omega arith))
          ∙ ap (put (span x1 x2 y) (packed_from first x1 y1 w bits)) s.shows ∙ box_more x1 x2 y1 y (packed_from first x1 y1 w bits) g₀ s.low

-- ---- the rows by pairs

-- the same from the first row on, the columns of row y from byte `at` on
pub record PairsPainted (x1 x2 n w first at k : ℕ) (bits g₀ g : List ℕ) : Type 0 where
  pub row : ℕ
  pub at_byte : at ≡ cell x1 row
  pub strip : StripPainted x1 x2 0 n w first row k bits g₀ g

module _ {x1 x2 n w first : ℕ} {bits g₀ : List ℕ} where
  pub pairs_start : {at : ℕ} → Bytes g₀ → at ≡ x1 / 8 → PairsPainted x1 x2 n w first at first bits g₀ g₀
  pairs_start b e = record { row = 0; at_byte = omega arith; strip = strip_start b (omega arith) }

  pub pairs_step : {at k m q s : ℕ} {g h : List ℕ} (o : PairsPainted x1 x2 n w first at k bits g₀ g) → length g₀ ≤ 30 * n → at + 1 < length g → x1 < x2 → x2 ≤ x1 + 8 → x2 ≤ width → w < 256
      → Bytes bits → s ≡ x1 % 8 → m ≡ swapped (column_mask s (x2 - x1)) → q ≡ 256 * get_or bits (k / 8) 0 + get_or bits (k / 8 + 1) 0
      → h ≡ put_pair at m (swapped (q * 2 ^ (k % 8) % 65536 / 2 ^ s)) g → PairsPainted x1 x2 n w first (at + 30) (k + w) bits g₀ h
  pairs_step {at} {k} {m} {q} {s} {g} {h} o lent there some few inside hw bs es em eq d =
      record { row = o.row + 1; at_byte = omega (arith, o.at_byte); strip = strip_step o.strip (omega (arith, o.at_byte, o.strip.long)) few hw (rw eq (pair_window bits k bs)) painted }
    where
      painted : h ≡ put (span x1 x2 o.row) (bits_from x1 (q * 2 ^ (k % 8) % 65536 / 256)) g
      painted =
          d ∙ rw em (pair_painted g x1 x2 o.row at (column_mask s (x2 - x1)) (q * 2 ^ (k % 8) % 65536) s (subst Bytes (sym o.strip.shows) (bytes_repaint _ g₀)) some few inside es o.at_byte refl (omega arith))

-- the rest after the rows that were painted by pairs
pub strip_rest : {x1 x2 n w first row : ℕ} {bits g₀ g : List ℕ} (o : RowsReached x1 x2 n w first row bits g₀ g)
    → (h : List ℕ) → h ≡ put (box x1 x2 row n) (packed_from (first + row * w) x1 row w bits) g
    → h ≡ put (box x1 x2 0 n) (packed_from first x1 0 w bits) g₀
strip_rest {x1} {x2} {n} {w} {first} {row} {bits} {g₀} {g} o h q =
    q ∙ put_same (box x1 x2 row n) (box x1 x2 row n) (packed_from (first + row * w) x1 row w bits) (packed_from first x1 0 w bits) g (λ u v on. refl)
    (λ u v on t. let b = within_true row n v (and_two (within x1 x2 u) (within row n v) t) in rest_bit bits first x1 row w u v b.0)
    ∙ ap (put (box x1 x2 row n) (packed_from first x1 0 w bits)) o.shows ∙ put_put (box x1 x2 0 row) (box x1 x2 row n) (packed_from first x1 0 w bits) g₀
    ∙ put_region (λ u v. box x1 x2 0 row u v || box x1 x2 row n u v) (box x1 x2 0 n) (packed_from first x1 0 w bits) g₀
    (λ u v on. sym (and-or_distrib_left (within x1 x2 u) (within 0 row v) (within row n v)) ∙ rw (within_join 0 row n v (omega arith) o.high))

-- ---- a byte on one row, its columns cut to the framebuffer

module _ (g : List ℕ) (x1 x2 y right at b : ℕ) (er : right ≡ min x2 width) (ea : at ≡ cell x1 y) where
  pub byte_painted : {a m s : ℕ} (h : List ℕ) → Bytes g → b < 256 → x1 < right → x2 ≤ x1 + 8 → s ≡ x1 % 8 → m ≡ swapped (column_mask s (right - x1)) → a ≡ 256 * b
      → h ≡ put_pair at m (swapped (a / 2 ^ s)) g → h ≡ put (span x1 x2 y) (bits_from x1 b) g
  byte_painted {a} {m} {s} h bs small l few es em e d =
      let z : 256 * b / 256 ≡ b = omega arith in
      row ∙ rw z (put_region (span x1 right y) (span x1 x2 y) (bits_from x1 b) g (λ u v on. rw (er, within_cut x1 x2 width u on.0)))
    where
      row : h ≡ put (span x1 right y) (bits_from x1 (256 * b / 256)) g
      row = d ∙ rw (em, e) (pair_painted g x1 right y at (column_mask s (right - x1)) (256 * b) s bs l (omega arith) (omega arith) es ea refl (omega arith))

  -- in the last byte of the framebuffer, or behind it
  pub byte_last : (h : List ℕ) → length g ≤ at + 1 → h ≡ put (span x1 (cell_end x1 right) y) (bits_from x1 b) g → h ≡ put (span x1 x2 y) (bits_from x1 b) g
  unfolding cell_end
  byte_last h l d =
      d ∙ put_region (span x1 (cell_end x1 right) y) (span x1 x2 y) (bits_from x1 b) g
      (λ u v on. elim (ℕ_discrete v y) [
        | yes e ↦ rw (within_iff x1 (cell_end x1 right) u x1 x2 u (omega arith) (omega arith))
        | no e ↦ rw (ne_eqb v y e, and-false, and-false)
      ])

pub byte_none : (g : List ℕ) (x1 x2 y right b : ℕ) → right ≡ min x2 width → Bytes g → right ≤ x1 → g ≡ put (span x1 x2 y) (bits_from x1 b) g
byte_none g x1 x2 y right b er bs l =
    put_off (span x1 x2 y) (bits_from x1 b) g bs (λ u v on. rw (within_iff x1 x2 u 0 0 u (omega arith) (omega arith), within_none 0 u))

-- ---- strip after strip

-- columns x up to `left` of n rows painted, and none from `right` on
pub record StripsPainted (x right n w left : ℕ) (bits g₀ g : List ℕ) : Type 0 where
  pub low : x ≤ left
  pub long : length g ≡ length g₀
  pub shows : g ≡ put (box x (min left right) 0 n) (packed x 0 w bits) g₀

module _ {x right n w : ℕ} {bits g₀ : List ℕ} where
  pub strips_start : Bytes g₀ → StripsPainted x right n w x bits g₀ g₀
  strips_start b =
      record {
        low = omega arith;
        long = refl;
        shows = put_off (box x (min x right) 0 n) (packed x 0 w bits) g₀ b (λ u v on. rw (within_iff x (min x right) u 0 0 u (omega arith) (omega arith), within_none 0 u));
      }

  pub strips_step : {left e : ℕ} {g h : List ℕ} → StripsPainted x right n w left bits g₀ g → left < right → e ≡ min (left + 8) right
      → h ≡ put (box left e 0 n) (packed_from (left - x) left 0 w bits) g → StripsPainted x right n w (left + 8) bits g₀ h
  strips_step {left} {e} {g} {h} s l ee d = record { low = omega (arith, s.low); long = ap length all ∙ length-repaint _ g₀; shows = rw (sym ee) all }
    where
      here : min left right ≡ left
      here = omega arith

      all : h ≡ put (box x e 0 n) (packed x 0 w bits) g₀
      all =
          d ∙ put_same (box left e 0 n) (box left e 0 n) (packed_from (left - x) left 0 w bits) (packed x 0 w bits) g (λ u v on. refl)
          (λ u v on t. let b = within_true left e u (and_one (within left e u) (within 0 n v) t) in strip_bit bits x left 0 w u v s.low b.0)
          ∙ ap (put (box left e 0 n) (packed x 0 w bits)) (rw here at s.shows) ∙ put_put (box x left 0 n) (box left e 0 n) (packed x 0 w bits) g₀
          ∙ put_region (λ u v. box x left 0 n u v || box left e 0 n u v) (box x e 0 n) (packed x 0 w bits) g₀
          (λ u v on. sym (and-or_distrib_right (within x left u) (within left e u) (within 0 n v)) ∙ rw (within_join x left e u s.low (omega arith)))

  pub strips_end : {left : ℕ} {g : List ℕ} → StripsPainted x right n w left bits g₀ g → right ≤ left → g ≡ put (box x right 0 n) (packed x 0 w bits) g₀
  strips_end {left} s l = let e : min left right ≡ right = omega arith in rw e at s.shows

-- ---- the rows lent on

-- columns of h rows that are lent from row y on, cut to the framebuffer
pub packed_lent : (x y w h right : ℕ) (bits g g' : List ℕ) (r : Rows) → Bytes g → right ≡ min (x + w) width → RowsAre (length g) y (y + h) r
    → g' ≡ put (box x right 0 r.count) (packed x 0 w bits) (mid_of r.from (r.to - r.from) g) → put_mid r.from (r.to - r.from) g g' ≡ packed_box x y w h bits g
unfolding packed
packed_lent x y w h right bits g g' r b er s d =
    lent_box g g' x (x + w) y (y + h) right r (packed x 0 w bits) b s er d
    ∙ put_same (box x (x + w) y (y + h)) (box x (x + w) y (y + h)) (λ u v. packed x 0 w bits u (v - y)) (packed x y w bits) g
    (λ u v on. refl) (λ u v on t. rw sub-zero)

-- to the right of the framebuffer nothing is painted
pub packed_off : (x y w h : ℕ) (bits g : List ℕ) → Bytes g → width ≤ x → g ≡ packed_box x y w h bits g
packed_off x y w h bits g b l =
    put_off (box x (x + w) y (y + h)) (packed x y w bits) g b (λ u v on. rw (within_iff x (x + w) u 0 0 u (omega arith) (omega arith), within_none 0 u))
