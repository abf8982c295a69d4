-- Four edges are a frame.
-- Assumes nothing.
use mathlib.Core.Path.{◌≡◌, refl, sym, ◌∙◌}
use mathlib.Core.Bool.{Bool, true, false, ◌&&◌, ◌||◌, and-false}
use mathlib.Core.List.{List}
use Prim.Native.Nat.{ℕ, ◌+◌, ◌<◌, ◌≤◌}
use native.Mathlib.Omega.{arith}
use lib.Dec.{eqb}
use borrow.Author.Tests.{eqb-true}
use Rattle.pixels.specs.Framebuffer.{Region, fill, plain}
use Rattle.pixels.specs.Regions.{within, rectangle}
use Rattle.pixels.proofs.Pictures.{Bytes}
use Rattle.pixels.proofs.Painting.{put_region, put_off}
use Rattle.pixels.proofs.Intervals.{within_one, within_yes, within_iff, within_none}
use Rattle.rectangle.specs.Frame.{frame}
use Rattle.rectangle.proofs.Runs.{more}

off : (a : Bool) → (a ≡ true → false ≡ true) → a ≡ false
off true e = sym (e refl)
off false e = refl

-- w, h: in the columns, in the rows; a, b: on the upper, lower edge's row; c, d: on the left, right edge's column
edges : (w h a b c d : Bool) → (a ≡ true → h ≡ true) → (b ≡ true → h ≡ true) → (c ≡ true → w ≡ true) → (d ≡ true → w ≡ true)
    → ((((w && a) || (w && b)) || (c && h)) || (d && h)) ≡ ((w && h) && (a || b || c || d))
edges true true a b c d p q r s = tidy a b c d
  where
    tidy : (a b c d : Bool) → (((a || b) || (c && true)) || (d && true)) ≡ (a || b || c || d)
    tidy true b c d = refl
    tidy false true c d = refl
    tidy false false true d = refl
    tidy false false false true = refl
    tidy false false false false = refl
edges true false a b c d p q r s = rw (off a p, off b q, and-false, and-false)
edges false true a b c d p q r s = rw (off c r, off d s)
edges false false a b c d p q r s = rw (and-false, and-false)

module _ (x1 y1 x2 y2 : ℕ) (c : Bool) (g : List ℕ) where
  upper : Region
  upper = rectangle x1 y1 x2 y1

  lower : Region
  lower = rectangle x1 y2 x2 y2

  left : Region
  left = rectangle x1 y1 x1 y2

  right : Region
  right = rectangle x2 y1 x2 y2

  pub frame_drawn : (g1 g2 g3 g4 : List ℕ) → x1 ≤ x2 → y1 ≤ y2 → g1 ≡ fill (rectangle x1 y1 x2 y1) c g → g2 ≡ fill (rectangle x1 y2 x2 y2) c g1
      → g3 ≡ fill (rectangle x1 y1 x1 y2) c g2 → g4 ≡ fill (rectangle x2 y1 x2 y2) c g3 → g4 ≡ fill (frame x1 y1 x2 y2) c g
  unfolding frame upper lower left right
  frame_drawn g1 g2 g3 g4 hx hy e1 e2 e3 e4 =
      more (λ u v. (upper u v || lower u v) || left u v) right c g g3 g4 (more (λ u v. upper u v || lower u v) left c g g2 g3 (more upper lower c g g1 g2 e1 e2) e3) e4
      ∙ put_region (λ u v. ((upper u v || lower u v) || left u v) || right u v) (frame x1 y1 x2 y2) (plain c) g
      (λ u v on. rw (within_one y1 v, within_one y2 v, within_one x1 u, within_one x2 u)
      (edges (within x1 (x2 + 1) u) (within y1 (y2 + 1) v) (eqb v y1) (eqb v y2) (eqb u x1) (eqb u x2)
      (λ e. let q = eqb-true v y1 e in within_yes y1 (y2 + 1) v (omega arith) (omega arith))
      (λ e. let q = eqb-true v y2 e in within_yes y1 (y2 + 1) v (omega arith) (omega arith))
      (λ e. let q = eqb-true u x1 e in within_yes x1 (x2 + 1) u (omega arith) (omega arith))
      (λ e. let q = eqb-true u x2 e in within_yes x1 (x2 + 1) u (omega arith) (omega arith))))

  -- corners out of order: no frame
  pub no_columns : Bytes g → x2 < x1 → g ≡ fill (frame x1 y1 x2 y2) c g
  unfolding frame
  no_columns b h = put_off (frame x1 y1 x2 y2) (plain c) g b (λ u v on. rw (within_iff x1 (x2 + 1) u 0 0 u (omega arith) (omega arith), within_none 0 u))

  pub no_rows : Bytes g → y2 < y1 → g ≡ fill (frame x1 y1 x2 y2) c g
  unfolding frame
  no_rows b h =
      put_off (frame x1 y1 x2 y2) (plain c) g b
      (λ u v on. rw (within_iff y1 (y2 + 1) v 0 0 v (omega arith) (omega arith), within_none 0 v, and-false))
