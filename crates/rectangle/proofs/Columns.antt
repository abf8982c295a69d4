-- The columns that two masks and the bytes between them have.
-- Assumes nothing.
use mathlib.Core.Path.{◌≡◌, refl, sym, ap, ◌∙◌}
use mathlib.Core.Bool.{Bool, false, ◌&&◌, ◌||◌, and-true, or-false}
use mathlib.Core.List.{List}
use Prim.Native.Nat.{ℕ, ◌+◌, ◌-◌, ◌*◌, ◌/◌, ◌%◌, ◌^◌, ◌<◌, ◌≤◌, min}
use native.Mathlib.Omega.{arith}
use native.Mathlib.Decide.{ℕ_discrete}
use lib.Dec.{eqb, leb}
use lib.Bits.{bit_and}
use lib.ListN.{length}
use borrow.Author.Tests.{eq-eqb, ne_eqb, eqb-true, le-leb, leb-true}
use borrow.Rule.Slice.PartMut.{mid_of, mid_len}
use Rattle.pixels.specs.Framebuffer.{Picture, bit_of, fill, put, plain}
use Rattle.pixels.specs.Regions.{within, box, columns}
use Rattle.pixels.proofs.Tests.{agree, iff, and_one, and_two}
use Rattle.pixels.proofs.Bits.{bit_and_lem, bit_run}
use Rattle.pixels.proofs.Pictures.{Bytes}
use Rattle.pixels.proofs.Painting.{put_off, put_region, length-repaint}
use Rattle.pixels.proofs.Intervals.{within_yes, within_before, within_after, within_true, within_none, within_iff}
use Rattle.pixels.proofs.Growth.{ColumnsPainted, columns_step}
use Rattle.canvas.specs.declared.Rows.{Rows}
use Rattle.canvas.specs.Canvas.{RowsAre}
use Rattle.rectangle.specs.declared.Ends.{Ends}
use Rattle.rectangle.specs.Ends.{ends_of, byte_columns, ends_columns, in_row, in_rows, in_all, Apart}
use Rattle.rectangle.proofs.Rows.{columns_all}

-- ---- the masks

left_bit : (x u : ℕ) → bit_of (255 / 2 ^ (x % 8)) (u % 8) ≡ leb (x % 8) (u % 8)
left_bit x u = bit_run (x % 8) (u % 8) (omega arith) (omega arith)

right_bit : (x u : ℕ) → bit_of (255 - 127 / 2 ^ (x % 8)) (u % 8) ≡ leb (u % 8) (x % 8)
unfolding bit_of
right_bit x u = agree 8 8 (λ k j. bit_of (255 - 127 / 2 ^ k) j) (λ k j. leb j k) refl (x % 8) (u % 8) (omega arith) (omega arith)

-- ---- columns x1 up to x2

module _ (x1 x2 : ℕ) (some : x1 < x2) where
  -- of one byte
  one_byte_lem : (u : ℕ) → x1 / 8 ≡ (x2 - 1) / 8 → byte_columns (x1 / 8) (bit_and (255 / 2 ^ (x1 % 8)) (255 - 127 / 2 ^ ((x2 - 1) % 8))) u ≡ within x1 x2 u
  unfolding byte_columns
  one_byte_lem u e =
      rw (bit_and_lem (255 / 2 ^ (x1 % 8)) (255 - 127 / 2 ^ ((x2 - 1) % 8)) (u % 8), left_bit x1 u, right_bit (x2 - 1) u)
      (iff (eqb (u / 8) (x1 / 8) && (leb (x1 % 8) (u % 8) && leb (u % 8) ((x2 - 1) % 8))) (within x1 x2 u)
      (λ t. let p = eqb-true (u / 8) (x1 / 8) (and_one (eqb (u / 8) (x1 / 8)) (leb (x1 % 8) (u % 8) && leb (u % 8) ((x2 - 1) % 8)) t) in
      let q = and_two (eqb (u / 8) (x1 / 8)) (leb (x1 % 8) (u % 8) && leb (u % 8) ((x2 - 1) % 8)) t in
      let l = leb-true (x1 % 8) (u % 8) (and_one (leb (x1 % 8) (u % 8)) (leb (u % 8) ((x2 - 1) % 8)) q) in
      let r = leb-true (u % 8) ((x2 - 1) % 8) (and_two (leb (x1 % 8) (u % 8)) (leb (u % 8) ((x2 - 1) % 8)) q) in
      within_yes x1 x2 u (omega arith) (omega arith))
      (λ t. let p = within_true x1 x2 u t in
      rw (eq-eqb (u / 8) (x1 / 8) (omega arith), le-leb (x1 % 8) (u % 8) (omega arith), le-leb (u % 8) ((x2 - 1) % 8) (omega arith))))

  -- of a first byte, a last one, and those between
  two_ends : (u : ℕ) → x1 / 8 < (x2 - 1) / 8 → ends_columns (ends_of x1 x2) u ≡ within x1 x2 u
  unfolding ends_columns ends_of byte_columns
  two_ends u h =
      rw (left_bit x1 u, right_bit (x2 - 1) u) (elim (ℕ_discrete (u / 8) (x1 / 8)) [
        | yes e ↦ rw (eq-eqb (u / 8) (x1 / 8) e, ne_eqb (u / 8) ((x2 - 1) / 8) (omega arith), within_before (x1 / 8 + 1) ((x2 - 1) / 8) (u / 8) (omega arith))
            (or-false (leb (x1 % 8) (u % 8) || false) ∙ or-false (leb (x1 % 8) (u % 8)) ∙ iff (leb (x1 % 8) (u % 8)) (within x1 x2 u) (λ t. let l = leb-true (x1 % 8) (u % 8) t in within_yes x1 x2 u (omega arith) (omega arith))
            (λ t. let p = within_true x1 x2 u t in le-leb (x1 % 8) (u % 8) (omega arith)))
        | no n ↦ rw (ne_eqb (u / 8) (x1 / 8) n) (elim (ℕ_discrete (u / 8) ((x2 - 1) / 8)) [
          | yes e ↦ rw (eq-eqb (u / 8) ((x2 - 1) / 8) e, within_after (x1 / 8 + 1) ((x2 - 1) / 8) (u / 8) (omega arith))
              (iff (leb (u % 8) ((x2 - 1) % 8)) (within x1 x2 u) (λ t. let r = leb-true (u % 8) ((x2 - 1) % 8) t in within_yes x1 x2 u (omega arith) (omega arith))
              (λ t. let p = within_true x1 x2 u t in le-leb (u % 8) ((x2 - 1) % 8) (omega arith)))
          | no m ↦ rw (ne_eqb (u / 8) ((x2 - 1) / 8) m)
              (or-false (within (x1 / 8 + 1) ((x2 - 1) / 8) (u / 8)) ∙ within_iff (x1 / 8 + 1) ((x2 - 1) / 8) (u / 8) x1 x2 u (omega arith) (omega arith))
        ])
      ])

module _ (x1 x2 : ℕ) (e : Ends) (some : x1 < x2) (inside : x2 ≤ 240) (ends : e ≡ ends_of x1 x2) where
  pub first_inside : e.first < 30
  unfolding ends_of
  first_inside = rw ends (omega arith)

  pub ends_apart : (e.first ≡ e.last → ⊥) → Apart e
  unfolding ends_of
  ends_apart n = let m : x1 / 8 ≡ (x2 - 1) / 8 → ⊥ = rw ends at n in rw ends (record { apart = omega arith; inside = omega arith })

-- ---- the columns painted

pub columns_none : (x1 x2 : ℕ) (c : Bool) (g : List ℕ) → Bytes g → x2 ≤ x1 → g ≡ fill (columns x1 x2) c g
columns_none x1 x2 c g b h = put_off (columns x1 x2) (plain c) g b (λ u v on. within_iff x1 x2 u 0 0 u (omega arith) (omega arith) ∙ within_none 0 u)

-- all whole rows
whole_rows : (e : Ends) (c : Bool) (g h : List ℕ) → h ≡ fill (in_rows (ends_columns e) (length g / 30)) c g → ColumnsPainted (ends_columns e) (length g / 30) (plain c) g h
whole_rows e c g h p = record { long = ap length p ∙ length-repaint _ g; shows = p }

module _ (x1 x2 : ℕ) (e : Ends) (c : Bool) (g h : List ℕ) (some : x1 < x2) (ends : e ≡ ends_of x1 x2) where
  pub columns_byte : e.first ≡ e.last → h ≡ fill (in_all (byte_columns e.first (bit_and e.left e.right))) c g → h ≡ fill (columns x1 x2) c g
  unfolding ends_of
  columns_byte q p =
      p ∙ put_region (in_all (byte_columns e.first (bit_and e.left e.right))) (columns x1 x2) (plain c) g
      (λ u v on. rw ends (one_byte_lem x1 x2 some u (rw ends at q)))

  columns_ends : e.first < e.last → h ≡ fill (in_all (ends_columns e)) c g → h ≡ fill (columns x1 x2) c g
  unfolding ends_of
  columns_ends q p = p ∙ put_region (in_all (ends_columns e)) (columns x1 x2) (plain c) g (λ u v on. rw ends (two_ends x1 x2 some u (rw ends at q)))

  -- all rows are whole
  pub columns_whole : e.first < e.last → length g ≤ 30 * (length g / 30) → h ≡ fill (in_rows (ends_columns e) (length g / 30)) c g → h ≡ fill (columns x1 x2) c g
  columns_whole q l p = columns_ends q (columns_all (whole_rows e c g h p) (λ u v on t. omega (arith, on.1)))

-- the last one is broken off
pub columns_broken : (x1 x2 y : ℕ) (e : Ends) (c : Bool) (g h k : List ℕ) → x1 < x2 → e ≡ ends_of x1 x2 → e.first < e.last → y ≡ length g / 30
    → h ≡ fill (in_rows (ends_columns e) (length g / 30)) c g → k ≡ fill (in_row (ends_columns e) y) c h → k ≡ fill (columns x1 x2) c g
columns_broken x1 x2 y e c g h k some ends q ey p r =
    columns_ends x1 x2 e c g k some ends q (columns_all (columns_step (whole_rows e c g h p) (r ∙ ap (λ (n : ℕ). fill (in_row (ends_columns e) n) c h) ey)) (λ u v on t. omega (arith, on.1)))

-- of n rows or fewer
pub columns_box : (x1 x2 n : ℕ) (p : Picture) (g h : List ℕ) → length g ≤ 30 * n → h ≡ put (columns x1 x2) p g → h ≡ put (box x1 x2 0 n) p g
columns_box x1 x2 n p g h l e =
    e ∙ put_region (columns x1 x2) (box x1 x2 0 n) p g (λ u v on. rw (within_yes 0 n v (omega arith) (omega (arith, on.1))) (sym (and-true (within x1 x2 u))))

-- rows that are lent on are no more than their count says
pub lent_rows : (g : List ℕ) (y1 y2 : ℕ) (r : Rows) → RowsAre (length g) y1 y2 r → length (mid_of r.from (r.to - r.from) g) ≤ 30 * r.count
lent_rows g y1 y2 r s = rw (mid_len r.from r.to g (omega (arith, s.to_is)), s.count_is, ← s.to_is, ← s.from_is) (few (r.to - r.from) (y2 - y1) apart)
  where
    few : (n m : ℕ) → n ≤ 30 * m → n ≤ 30 * min m ((n + 29) / 30)
    few n m l = omega arith

    apart : r.to - r.from ≤ 30 * (y2 - y1)
    apart = rw (s.to_is, s.from_is) (omega arith)
