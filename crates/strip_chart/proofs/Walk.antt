-- The walk over a row, a byte of it at a time, for both directions by one invariant: the columns passed, and what they show.
-- Assumes nothing.
use mathlib.Core.Path.{◌≡◌, refl, sym, ap, ◌∙◌}
use mathlib.Core.Logic.{◌≢◌}
use mathlib.Core.Bool.{Bool, true, false, cond, not, ◌&&◌, ◌||◌, false≢true, and-false, or_comm, and-or_distrib_right}
use mathlib.Core.List.{List}
use Prim.Native.Nat.{ℕ, ◌+◌, ◌-◌, ◌*◌, ◌/◌, ◌%◌, ◌<◌, ◌≤◌, min, max}
use native.Mathlib.Omega.{arith}
use native.Mathlib.Decide.{dec_lt, ℕ_discrete}
use lib.Dec.{eqb}
use lib.ListN.{length}
use borrow.Author.Tests.{eq-eqb, ne_eqb, eqb-true, lt-ltb}
use borrow.Rule.Slice.PartMut.{put_mid, mid_of}
use Rattle.pixels.specs.Framebuffer.{bit_of, pixel, black, put, fill, width}
use Rattle.pixels.specs.Regions.{within, point, span, box, rectangle}
use Rattle.pixels.proofs.Tests.{and_one, and_two}
use Rattle.pixels.proofs.Bits.{bit_byte}
use Rattle.pixels.proofs.Pictures.{Bytes}
use Rattle.pixels.proofs.Painting.{put_same, put_region, put_off, put_put, length-repaint}
use Rattle.pixels.proofs.Intervals.{within_none, within_more, within_less, within_join, within_after, within_before, within_iff, within_true}
use Rattle.pixels.proofs.Growth.{put_point, RowsPainted, rows_step}
use Rattle.pixels.proofs.Rows.{black_part}
use Rattle.pixels.proofs.Footprint.{black_outside, outside_put}
use Rattle.canvas.specs.declared.Rows.{Rows}
use Rattle.canvas.specs.Canvas.{RowsAre}
use Rattle.canvas.proofs.Lent.{lent_whole}
use Rattle.canvas.proofs.Strokes.{black_right}
use Rattle.spans.specs.Bits.{packed_bit, window_of, bits_from, cell_end}
use Rattle.spans.proofs.Cells.{end_within}
use Rattle.std.specs.declared.ops.Range.{Range}
use Rattle.strip_chart.specs.Strips.{entering, source, shifted, shifted_strip}
use Rattle.strip_chart.specs.Walk.{part_of, beyond, shifted_row, shifted_rows}

-- the columns that were passed on the way to column x
unfoldable pub passed : Bool → ℕ → ℕ → ℕ → ℕ → Bool
passed right x1 x2 x u = cond right (within (x + 1) (x2 + 1) u) (within x1 x u)

passed_none : (right : Bool) (x1 x2 u : ℕ) → passed right x1 x2 (entering (not right) x1 x2) u ≡ false
unfolding passed entering
passed_none true x1 x2 u = within_none (x2 + 1) u
passed_none false x1 x2 u = within_none x1 u

passed_all : (right : Bool) (x1 x2 u : ℕ) → x1 ≤ x2 → (passed right x1 x2 (entering right x1 x2) u || eqb u (entering right x1 x2)) ≡ within x1 (x2 + 1) u
unfolding passed entering
passed_all true x1 x2 u h = within_less x1 (x2 + 1) u (omega arith)
passed_all false x1 x2 u h = within_more x1 x2 u h

inside_leaving : (right : Bool) (x1 x2 : ℕ) → x1 ≤ x2 → (x1 ≤ entering (not right) x1 x2) × (entering (not right) x1 x2 ≤ x2)
unfolding entering
inside_leaving true x1 x2 h = (h, omega arith)
inside_leaving false x1 x2 h = (omega arith, h)

-- ---- a part: columns of one byte, from x on towards the column that comes in

-- how far x is from the column that comes in
abbrev pub apart : ℕ → ℕ → ℕ
apart x end = (x - end) + (end - x)

pub record PartIs (right : Bool) (x1 x2 x : ℕ) (p : Range ℕ) : Type 0 where
  pub byte : p.end ≤ 8 * (p.start / 8) + 8
  pub asks : (p.start < 65535) × (right ≡ true → 0 < p.start)
  -- the next column is nearer
  pub low : x1 ≤ beyond right p
  pub high : beyond right p ≤ x2
  pub nearer : apart (beyond right p) (entering right x1 x2) < apart x (entering right x1 x2)
  -- what is passed then
  pub more : (u : ℕ) → (passed right x1 x2 x u || within p.start p.end u) ≡ passed right x1 x2 (beyond right p) u
  -- each of its columns has its source on the framebuffer, and that was not passed
  pub other : (u : ℕ) → p.start ≤ u → u < p.end → u ≢ entering right x1 x2
  pub unpassed : (u : ℕ) → p.start ≤ u → u < p.end → passed right x1 x2 x (source right u) ≡ false
  pub onward : (u : ℕ) → p.start ≤ u → u < p.end → (source right p.start + (u - p.start) ≡ source right u) × (source right u < width)

nearer_left : (x1 x m : ℕ) → x1 < m → m ≤ x → apart (m - 1) x1 < apart x x1
nearer_left x1 x m h k = let a : x1 - (m - 1) ≡ 0 = omega arith in let b : x1 - x ≡ 0 = omega arith in rw (a, b) (omega arith)

nearer_right : (x2 x m : ℕ) → x < m → m ≤ x2 → apart m x2 < apart x x2
nearer_right x2 x m h k = let a : m - x2 ≡ 0 = omega arith in let b : x - x2 ≡ 0 = omega arith in rw (a, b) (omega arith)

part_is : (right : Bool) (x1 x2 x : ℕ) → x1 ≤ x → x ≤ x2 → x2 < width → x ≢ entering right x1 x2 → PartIs right x1 x2 x (part_of right x (entering right x1 x2))
unfolding part_of beyond entering source passed
part_is true x1 x2 x h k l n =
    let m : x1 < x = omega arith in
    record {
      byte = omega arith;
      asks = (omega arith, λ e. omega arith);
      low = omega arith;
      high = omega arith;
      nearer = nearer_left x1 x (max (8 * (x / 8)) (x1 + 1)) (omega arith) (omega arith);
      more = λ u. or_comm (within (x + 1) (x2 + 1) u) (within (max (8 * (x / 8)) (x1 + 1)) (x + 1) u)
          ∙ within_join (max (8 * (x / 8)) (x1 + 1)) (x + 1) (x2 + 1) u (omega arith) (omega arith)
          ∙ (let z : max (8 * (x / 8)) (x1 + 1) ≡ max (8 * (x / 8)) (x1 + 1) - 1 + 1 = omega arith in ap (λ (i : ℕ). within i (x2 + 1) u) z);
      other = λ u a b e. absurd (omega arith);
      unpassed = λ u a b. within_before (x + 1) (x2 + 1) (u - 1) (omega arith);
      onward = λ u a b. (omega arith, omega arith);
    }
part_is false x1 x2 x h k l n =
    let m : x < x2 = omega arith in
    record {
      byte = omega arith;
      asks = (omega arith, λ e. absurd (false≢true e));
      low = omega arith;
      high = omega arith;
      nearer = nearer_right x2 x (min (8 * (x / 8) + 8) x2) (omega arith) (omega arith);
      more = λ u. within_join x1 x (min (8 * (x / 8) + 8) x2) u h (omega arith);
      other = λ u a b e. absurd (omega arith);
      unpassed = λ u a b. within_after x1 x (u + 1) (omega arith);
      onward = λ u a b. (omega arith, omega arith);
    }

-- a framebuffer's rows are packed bits
packed_row : (g : List ℕ) (x y : ℕ) → x < width → packed_bit g (width * y + x) ≡ black g x y
unfolding packed_bit black pixel
packed_row g x y h =
    let d : (width * y + x) / 8 ≡ 30 * y + x / 8 = omega arith in
    let m : (width * y + x) % 8 ≡ x % 8 = omega arith in rw (d, m, lt-ltb x width h)

entering_in : (right : Bool) (x1 x2 : ℕ) → x1 ≤ x2 → x2 < width → entering right x1 x2 < width
unfolding entering
entering_in true x1 x2 h k = omega arith
entering_in false x1 x2 h k = k

-- row y with the columns before x done
pub record Shifting (right : Bool) (x1 x2 y x : ℕ) (g₀ g : List ℕ) : Type 0 where
  pub low : x1 ≤ x
  pub high : x ≤ x2
  pub long : length g ≡ length g₀
  pub shows : g ≡ put (λ u v. passed right x1 x2 x u && eqb v y) (shifted right x1 x2 g₀) g₀

module _ {right : Bool} {x1 x2 y : ℕ} {g₀ : List ℕ} where
  pub shift_start : {x : ℕ} → Bytes g₀ → x1 ≤ x2 → x ≡ entering (not right) x1 x2 → Shifting right x1 x2 y x g₀ g₀
  shift_start {x} b h e =
      rw e (record {
        low = (inside_leaving right x1 x2 h).0;
        high = (inside_leaving right x1 x2 h).1;
        long = refl;
        shows = put_off (λ u v. passed right x1 x2 (entering (not right) x1 x2) u && eqb v y) (shifted right x1 x2 g₀) g₀ b (λ u v on. rw (passed_none right x1 x2 u));
      })

  module _ {x end : ℕ} {g : List ℕ} (s : Shifting right x1 x2 y x g₀ g) (ee : end ≡ entering right x1 x2) where
    pub shift_part : {p : Range ℕ} → x2 < width → x ≢ end → p ≡ part_of right x end → PartIs right x1 x2 x p
    shift_part l n e = rw (e, ee) (part_is right x1 x2 x s.low s.high l (λ q. n (q ∙ sym ee)))

    pub shift_asks : x2 < width → (x < width) × (end < width)
    shift_asks l = rw ee (omega (arith, s.high), entering_in right x1 x2 (omega (arith, s.low, s.high)) l)

    pub shift_nearer : {p : Range ℕ} {n : ℕ} → PartIs right x1 x2 x p → n ≡ beyond right p → apart n end < apart x end
    shift_nearer t e = rw (e, ee) t.nearer

    -- one part more
    pub shift_step : {k b n : ℕ} {p : Range ℕ} {h : List ℕ} → PartIs right x1 x2 x p → n ≡ beyond right p → k ≡ source right p.start → b ≡ window_of g (width * y + k)
        → h ≡ put (span p.start (cell_end p.start p.end) y) (bits_from p.start b) g → Shifting right x1 x2 y n g₀ h
    unfolding shifted bits_from window_of
    shift_step {k} {b} {n} {p} {h} t en ek eb e = rw en (record { low = t.low; high = t.high; long = ap length all ∙ length-repaint _ g₀; shows = all })
      where
        read : (u : ℕ) → p.start ≤ u → u < p.end → bit_of b (u - p.start) ≡ shifted right x1 x2 g₀ u y
        read u a c =
            rw (eb, ne_eqb u (entering right x1 x2) (t.other u a c))
            (bit_byte (λ i. packed_bit g (width * y + k + i)) (u - p.start) (omega (arith, t.byte))
            ∙ (let z : width * y + k + (u - p.start) ≡ width * y + source right u = omega (arith, ek, (t.onward u a c).0) in rw z)
            ∙ packed_row g (source right u) y (t.onward u a c).1
            ∙ rw s.shows (black_outside (outside_put (λ u v. passed right x1 x2 x u && eqb v y) (shifted right x1 x2 g₀) g₀) (source right u) y
            (rw (t.unpassed u a c))))

        all : h ≡ put (λ u v. passed right x1 x2 (beyond right p) u && eqb v y) (shifted right x1 x2 g₀) g₀
        all =
            (rw (end_within p.start p.end t.byte) at e) ∙ put_same (span p.start p.end y) (span p.start p.end y) (bits_from p.start b) (shifted right x1 x2 g₀) g (λ u v on. refl)
            (λ u v on q. let c = within_true p.start p.end u (and_one (within p.start p.end u) (eqb v y) q) in
            rw (eqb-true v y (and_two (within p.start p.end u) (eqb v y) q)) (read u c.0 c.1))
            ∙ ap (put (span p.start p.end y) (shifted right x1 x2 g₀)) s.shows
            ∙ put_put (λ u v. passed right x1 x2 x u && eqb v y) (span p.start p.end y) (shifted right x1 x2 g₀) g₀
            ∙ put_region (λ u v. (passed right x1 x2 x u && eqb v y) || span p.start p.end y u v) (λ u v. passed right x1 x2 (beyond right p) u && eqb v y) (shifted right x1 x2 g₀) g₀
            (λ u v on. sym (and-or_distrib_right (passed right x1 x2 x u) (within p.start p.end u) (eqb v y)) ∙ rw (t.more u))

    -- and the last one white
    pub shift_end : {h : List ℕ} → x1 ≤ x2 → x ≡ end → h ≡ fill (point end y) false g → h ≡ shifted_row right x1 x2 y g₀
    unfolding shifted
    shift_end {h} l q e =
        e ∙ put_point end y false (shifted right x1 x2 g₀) g (rw (ee, eq-eqb (entering right x1 x2) (entering right x1 x2) refl))
        ∙ ap (put (point end y) (shifted right x1 x2 g₀)) s.shows
        ∙ put_put (λ u v. passed right x1 x2 x u && eqb v y) (point end y) (shifted right x1 x2 g₀) g₀
        ∙ put_region (λ u v. (passed right x1 x2 x u && eqb v y) || point end y u v) (span x1 (x2 + 1) y) (shifted right x1 x2 g₀) g₀
        (λ u v on. sym (and-or_distrib_right (passed right x1 x2 x u) (eqb u end) (eqb v y)) ∙ rw (q, ee, passed_all right x1 x2 u l))

-- ---- the rows

-- a row that is reached shows what it showed at the start, so its shift is that of the start
pub shift_row_step : (right : Bool) {x1 : ℕ} (x2 : ℕ) {n y : ℕ} {g₀ g h : List ℕ} → RowsPainted x1 (x2 + 1) n y (shifted right x1 x2 g₀) g₀ g → y < n
    → h ≡ shifted_row right x1 x2 y g → RowsPainted x1 (x2 + 1) n (y + 1) (shifted right x1 x2 g₀) g₀ h
unfolding shifted
shift_row_step right {x1} x2 {n} {y} {g₀} {g} {h} s l e =
    rows_step s l (e ∙ put_same (span x1 (x2 + 1) y) (span x1 (x2 + 1) y) (shifted right x1 x2 g) (shifted right x1 x2 g₀) g (λ u v on. refl)
    (λ u v on t. let q = eqb-true v y (and_two (within x1 (x2 + 1) u) (eqb v y) t) in
    rw (q, s.shows) (ap (λ (b : Bool). not (eqb u (entering right x1 x2)) && b)
    (black_outside (outside_put (box x1 (x2 + 1) 0 y) (shifted right x1 x2 g₀) g₀) (source right u) y
    (rw (within_after 0 y y (omega arith)) (and-false (within x1 (x2 + 1) (source right u))))))))

-- ---- the rectangle

-- nothing of it lies on the framebuffer
pub strip_off : (right : Bool) (x1 y1 x2 y2 : ℕ) (g : List ℕ) → Bytes g → min x2 239 < x1 → g ≡ shifted_strip right x1 y1 x2 y2 g
strip_off right x1 y1 x2 y2 g b h =
    put_off (rectangle x1 y1 x2 y2) (shifted right x1 x2 g) g b
    (λ u v on. rw (within_iff x1 (x2 + 1) u 0 0 u (omega (arith, on.0)) (omega arith), within_none 0 u))

-- what lies beyond it is white, so the strip may end with it
cut_pixel : (right : Bool) (x1 x2 u v : ℕ) (g : List ℕ) → u < width
    → (not (eqb u (entering right x1 (min x2 239))) && black g (source right u) v) ≡ (not (eqb u (entering right x1 x2)) && black g (source right u) v)
unfolding entering source
cut_pixel true x1 x2 u v g h = refl
cut_pixel false x1 x2 u v g h =
    elim (dec_lt x2 width) [
      | yes l ↦ (let z : min x2 239 ≡ x2 = omega arith in rw z)
      | no l ↦ (let z : min x2 239 ≡ 239 = omega arith in
          rw (z, ne_eqb u x2 (omega arith)) (elim (ℕ_discrete u 239) [
            | yes e ↦ rw (e, ← black_right g width v (omega arith))
            | no e ↦ rw (ne_eqb u 239 e)
          ]))
    ]

pub strip_cut : (right : Bool) (x1 y1 x2 y2 : ℕ) (g : List ℕ) → shifted_strip right x1 y1 (min x2 239) y2 g ≡ shifted_strip right x1 y1 x2 y2 g
unfolding shifted
strip_cut right x1 y1 x2 y2 g =
    put_same (rectangle x1 y1 (min x2 239) y2) (rectangle x1 y1 x2 y2) (shifted right x1 (min x2 239) g) (shifted right x1 x2 g) g
    (λ u v on. rw (within_iff x1 (min x2 239 + 1) u x1 (x2 + 1) u (omega arith) (omega (arith, on.0))))
    (λ u v on t. cut_pixel right x1 x2 u v g on.0)

-- the rows that are lent are read as the framebuffer is
lent : (right : Bool) (x1 y1 x2 y2 : ℕ) (g h : List ℕ) (r : Rows) → Bytes g → RowsAre (length g) y1 (y2 + 1) r
    → h ≡ shifted_rows right x1 x2 r.count (mid_of r.from (r.to - r.from) g)
    → put_mid r.from (r.to - r.from) g h ≡ shifted_strip right x1 y1 x2 y2 g
unfolding shifted
lent right x1 y1 x2 y2 g h r b s e =
    lent_whole g h x1 (x2 + 1) y1 (y2 + 1) r (shifted right x1 x2 part) b s e
    ∙ put_same (rectangle x1 y1 x2 y2) (rectangle x1 y1 x2 y2) (λ x y. shifted right x1 x2 part x (y - y1)) (shifted right x1 x2 g) g (λ u v on. refl)
    (λ u v on t. let q = within_true y1 (y2 + 1) v (and_two (within x1 (x2 + 1) u) _ t) in
    ap (λ (b : Bool). not (eqb u (entering right x1 x2)) && b)
    (black_part g y1 (y2 + 1) r.from r.to s.from_is s.to_is (source right u) v (omega arith) q.0 q.1))
  where
    part : List ℕ
    part = mid_of r.from (r.to - r.from) g

pub strip_lent : (right : Bool) (x1 y1 x2 y2 last : ℕ) (g h : List ℕ) (r : Rows) → Bytes g → last ≡ min x2 239 → RowsAre (length g) y1 (y2 + 1) r
    → h ≡ shifted_rows right x1 last r.count (mid_of r.from (r.to - r.from) g)
    → put_mid r.from (r.to - r.from) g h ≡ shifted_strip right x1 y1 x2 y2 g
strip_lent right x1 y1 x2 y2 last g h r b el s e =
    lent right x1 y1 last y2 g h r b s e ∙ ap (λ (n : ℕ). shifted_strip right x1 y1 n y2 g) el ∙ strip_cut right x1 y1 x2 y2 g
