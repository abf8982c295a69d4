-- Rows of a framebuffer lent on, painted, and put back: the framebuffer painted in those rows, and no other row touched.
-- Assumes nothing.
use mathlib.Core.Path.{◌≡◌, refl, sym, ap, ◌∙◌}
use mathlib.Core.Bool.{Bool, true, false, cond, ◌&&◌, and-false}
use mathlib.Core.List.{List, ◌++◌}
use Prim.Native.Nat.{ℕ, ◌+◌, ◌-◌, ◌*◌, ◌/◌, ◌≤◌, ◌<◌, min, max}
use native.Mathlib.Omega.{arith}
use native.Mathlib.Decide.{dec_lt}
use lib.Dec.{ltb}
use borrow.Author.Tests.{le-ltb}
use lib.ListN.{length, get_or, take, drop, get_or-append}
use lib.Seq.{length-take-le, get_or-append-add, get_or-take, get_or-drop}
use borrow.Rule.Slice.PartMut.{put_mid, mid_of, same_len_mid, mid_len}
use Rattle.pixels.specs.Framebuffer.{Region, Picture, On, pixel, black, repaint, put, cell, row_start, rows_end, row_count, width}
use Rattle.pixels.specs.Regions.{within, box}
use Rattle.pixels.proofs.Pictures.{Bytes, pixel_behind}
use Rattle.pixels.proofs.Painting.{is_repaint, repaint_same, pixel_repaint, length-repaint, bytes_repaint, put_region}
use Rattle.pixels.proofs.Intervals.{within_yes, within_before, within_after, within_cut}

-- a list with a part put back, at an index
pub get_or-back : (a e : ℕ) (g h : List ℕ) → a ≤ e → e ≤ length g → length h ≡ e - a → (i : ℕ)
    → get_or (put_mid a (e - a) g h) i 0 ≡ cond (within a e i) (get_or h (i - a) 0) (get_or g i 0)
get_or-back a e g h l m n i =
    let t : length (take a g) ≡ a = length-take-le a g (omega arith) in
    elim (dec_lt i a) [
      | yes p ↦ rw (within_before a e i p)
          (get_or-append (take a g) (h ++ drop (e - a) (drop a g)) 0 i (omega arith) ∙ get_or-take a g i 0 p)
      | no p ↦ (let s : i ≡ length (take a g) + (i - a) = omega arith in
          ap (λ (j : ℕ). get_or (put_mid a (e - a) g h) j 0) s ∙ get_or-append-add (take a g) (h ++ drop (e - a) (drop a g)) (i - a) 0
          ∙ elim (dec_lt i e) [
            | yes q ↦ rw (within_yes a e i (omega arith) q) (get_or-append h (drop (e - a) (drop a g)) 0 (i - a) (omega arith))
            | no q ↦ (let r : i - a ≡ length h + (i - e) = omega arith in
                rw (within_after a e i (omega arith))
                (ap (λ (j : ℕ). get_or (h ++ drop (e - a) (drop a g)) j 0) r ∙ get_or-append-add h (drop (e - a) (drop a g)) (i - e) 0
                ∙ get_or-drop (e - a) (drop a g) (i - e) 0 ∙ get_or-drop a g (e - a + (i - e)) 0
                ∙ (let z : a + (e - a + (i - e)) ≡ i = omega arith in rw z)))
          ])
    ]

pub bytes_back : (a e : ℕ) (g h : List ℕ) → a ≤ e → e ≤ length g → length h ≡ e - a → Bytes g → Bytes h → Bytes (put_mid a (e - a) g h)
bytes_back a e g h l m n bg bh i = rw (get_or-back a e g h l m n i) (pick (within a e i))
  where
    pick : (t : Bool) → cond t (get_or h (i - a) 0) (get_or g i 0) < 256
    pick true = bh (i - a)
    pick false = bg i

-- a row that is there is one of those counted
counted : (n y1 y2 y : ℕ) → 30 * y < n → y1 ≤ y → y < y2 → y - y1 < row_count n y1 y2
counted n y1 y2 y on h k =
    least (y - y1) (rows_end n y1 y2 - row_start n y1) (y2 - y1)
    (apart (row_start n y1) (row_start n y2) (30 * y1) (30 * y) (30 * (y - y1)) (omega arith) (omega arith) (omega arith)) (omega arith)
  where
    least : (d s m : ℕ) → 30 * d < s → d < m → d < min m ((s + 29) / 30)
    least d s m p q = omega arith

    apart : (s t a c d : ℕ) → s ≡ a → c < t → a + d ≡ c → d < max s t - s
    apart s t a c d p q r = omega arith

-- rows y1 up to y2 of g, as they are lent: from byte a up to byte e
module _ (g : List ℕ) (y1 y2 a e : ℕ) (ea : a ≡ row_start (length g) y1) (ee : e ≡ rows_end (length g) y1 y2) where
  part_long : length (mid_of a (e - a) g) ≡ e - a
  part_long = mid_len a e g (omega arith)

  -- a pixel of the part is that pixel of the framebuffer, y1 rows further down
  pub pixel_part : (x y : ℕ) → On (length g) x y → y1 ≤ y → y < y2 → pixel (mid_of a (e - a) g) x (y - y1) ≡ pixel g x y
  unfolding pixel
  pixel_part x y on h k =
      let z : a + (30 * (y - y1) + x / 8) ≡ 30 * y + x / 8 = omega arith in
      rw (get_or-take (e - a) (drop a g) (30 * (y - y1) + x / 8) 0 (omega arith), get_or-drop a g (30 * (y - y1) + x / 8) 0, z)

  -- the same of a pixel that is asked for anywhere
  pub black_part : (x y : ℕ) → 30 * y < length g → y1 ≤ y → y < y2 → black (mid_of a (e - a) g) x (y - y1) ≡ black g x y
  unfolding black
  black_part x y on h k =
      elim (dec_lt x width) [
        | yes l ↦ ap (λ (b : Bool). ltb x width && b) (elim (dec_lt (cell x y) (length g)) [
          | yes m ↦ pixel_part x y (l, m) h k
          | no m ↦ pixel_behind (mid_of a (e - a) g) x (y - y1) (rw part_long (omega arith)) ∙ sym (pixel_behind g x y (omega arith))
        ])
        | no l ↦ rw (le-ltb x width (omega arith))
      ]

  -- and it lies in the part
  pub on_part : (x y : ℕ) → On (length g) x y → y1 ≤ y → y < y2 → On (length (mid_of a (e - a) g)) x (y - y1)
  on_part x y on h k = (on.0, omega (arith, part_long))

  pixel_back : (h : List ℕ) → length h ≡ e - a → (x y : ℕ) → On (length g) x y
      → pixel (put_mid a (e - a) g h) x y ≡ cond (within y1 y2 y) (pixel h x (y - y1)) (pixel g x y)
  unfolding pixel
  pixel_back h n x y on =
      rw (get_or-back a e g h (omega arith) (omega arith) n (30 * y + x / 8))
      (elim (dec_lt y y1) [
        | yes p ↦ rw (within_before y1 y2 y p, within_before a e (30 * y + x / 8) (omega arith))
        | no p ↦ (elim (dec_lt y y2) [
          | yes q ↦ (let z : 30 * y + x / 8 - a ≡ 30 * (y - y1) + x / 8 = omega arith in
              rw (within_yes y1 y2 y (omega arith) q, within_yes a e (30 * y + x / 8) (omega arith) (omega arith), z))
          | no q ↦ rw (within_after y1 y2 y (omega arith), within_after a e (30 * y + x / 8) (omega arith))
        ])
      ])

  -- THE LAW OF LENT ROWS: what repaints the rows by f repaints the framebuffer by f in those rows
  pub rows_repaint : (f : ℕ → ℕ → Bool → Bool) → Bytes g
      → put_mid a (e - a) g (repaint f (mid_of a (e - a) g)) ≡ repaint (λ x y o. cond (within y1 y2 y) (f x (y - y1) o) o) g
  rows_repaint f b =
      is_repaint (put_mid a (e - a) g (repaint f (mid_of a (e - a) g))) (λ x y o. cond (within y1 y2 y) (f x (y - y1) o) o) g
      (same_len_mid a (e - a) g (repaint f (mid_of a (e - a) g)) (length-repaint f (mid_of a (e - a) g)))
      (bytes_back a e g (repaint f (mid_of a (e - a) g)) (omega arith) (omega arith) len b (bytes_repaint f (mid_of a (e - a) g)))
      (λ x y on. pixel_back (repaint f (mid_of a (e - a) g)) len x y on ∙ at x y on)
    where
      len : length (repaint f (mid_of a (e - a) g)) ≡ e - a
      len = length-repaint f (mid_of a (e - a) g) ∙ part_long

      at : (x y : ℕ) → On (length g) x y
          → cond (within y1 y2 y) (pixel (repaint f (mid_of a (e - a) g)) x (y - y1)) (pixel g x y)
          ≡ cond (within y1 y2 y) (f x (y - y1) (pixel g x y)) (pixel g x y)
      at x y on =
          elim (dec_lt y y1) [
            | yes p ↦ rw (within_before y1 y2 y p)
            | no p ↦ (elim (dec_lt y y2) [
              | yes q ↦ rw (within_yes y1 y2 y (omega arith) q, pixel_repaint f (mid_of a (e - a) g) x (y - y1) (on_part x y on (omega arith) q), pixel_part x y on (omega arith) q)
              | no q ↦ rw (within_after y1 y2 y (omega arith))
            ])
          ]

  -- the same of a region: seen from the framebuffer it lies in those rows, y1 rows further down
  pub rows_put : (s : Region) (p : Picture) → Bytes g
      → put_mid a (e - a) g (put s p (mid_of a (e - a) g)) ≡ put (λ x y. s x (y - y1) && within y1 y2 y) (λ x y. p x (y - y1)) g
  rows_put s p b =
      rows_repaint (λ x y o. cond (s x y) (p x y) o) b
      ∙ repaint_same (λ x y o. cond (within y1 y2 y) (cond (s x (y - y1)) (p x (y - y1)) o) o)
      (λ x y o. cond (s x (y - y1) && within y1 y2 y) (p x (y - y1)) o) g
      (λ x y on. both (within y1 y2 y) (s x (y - y1)) (p x (y - y1)) (pixel g x y))
    where
      both : (t s c o : Bool) → cond t (cond s c o) o ≡ cond (s && t) c o
      both true true c o = refl
      both true false c o = refl
      both false true c o = refl
      both false false c o = refl

  -- what paints columns x1 up to x2, cut to the framebuffer, in the rows that are lent, paints the whole box
  pub rows_box : (x1 x2 k : ℕ) (p : Picture) → Bytes g → k ≡ row_count (length g) y1 y2
      → put_mid a (e - a) g (put (box x1 (min x2 width) 0 k) p (mid_of a (e - a) g)) ≡ put (box x1 x2 y1 y2) (λ x y. p x (y - y1)) g
  rows_box x1 x2 k p b ek =
      rows_put (box x1 (min x2 width) 0 k) p b
      ∙ put_region (λ x y. box x1 (min x2 width) 0 k x (y - y1) && within y1 y2 y) (box x1 x2 y1 y2) (λ x y. p x (y - y1)) g
      (λ x y on. rw (within_cut x1 x2 width x on.0) (elim (dec_lt y y1) [
        | yes q ↦ rw (within_before y1 y2 y q, and-false, and-false)
        | no q ↦ (elim (dec_lt y y2) [
          | yes r ↦ rw (within_yes y1 y2 y (omega arith) r, within_yes 0 k (y - y1) (omega arith) (rw ek (counted (length g) y1 y2 y (omega arith) (omega arith) r))) (tidy (within x1 x2 x))
          | no r ↦ rw (within_after y1 y2 y (omega arith), and-false, and-false)
        ])
      ]))
    where
      tidy : (t : Bool) → ((t && true) && true) ≡ (t && true)
      tidy true = refl
      tidy false = refl
