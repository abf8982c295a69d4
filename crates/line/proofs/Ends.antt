-- A line begins at its first point and ends at its last.
-- Assumes nothing.
use mathlib.Core.Path.{◌≡◌, refl, ◌∙◌}
use mathlib.Core.Bool.{true}
use Prim.Native.Nat.{ℕ, zero, suc, ◌+◌, ◌≤◌, max}
use native.Mathlib.Omega.{arith}
use native.Mathlib.Decide.{dec_lt}
use native.Mathlib.Nat.{sub-zero}
use borrow.Author.Tests.{lt-ltb, le-ltb, le-leb, lt-leb, eq-eqb}
use Rattle.pixels.specs.Regions.{point, some}
use Rattle.pixels.proofs.Touch.{some_at}
use Rattle.line.specs.Line.{distance, towards, rise, line_x, line_y, line}
use Rattle.line.proofs.Rise.{rise_is, rise_none, towards_none}

towards_full : (p q : ℕ) → towards p q (distance p q) ≡ q
unfolding towards
towards_full p q = elim (dec_lt p q) [ yes l ↦ rw (lt-ltb p q l) (omega arith) | no l ↦ rw (le-ltb p q (omega arith)) (omega arith) ]

rise_full : (d e : ℕ) → e ≤ d → rise d e d ≡ e
rise_full zero e h = rise_none 0 e ∙ omega arith
rise_full (suc d) e h = rise_is (suc d) e (suc d) e (omega arith) (omega arith)

pub line_first : (x1 y1 x2 y2 : ℕ) → (line_x x1 y1 x2 y2 0 ≡ x1) × (line_y x1 y1 x2 y2 0 ≡ y1)
unfolding line_x line_y
line_first x1 y1 x2 y2 =
    elim (dec_lt (distance x1 x2) (distance y1 y2)) [
      | yes l ↦ rw (lt-leb (distance y1 y2) (distance x1 x2) l, rise_none (distance y1 y2) (distance x1 x2)) (towards_none x1 x2, towards_none y1 y2)
      | no l ↦ rw (le-leb (distance y1 y2) (distance x1 x2) (omega arith), rise_none (distance x1 x2) (distance y1 y2)) (towards_none x1 x2, towards_none y1 y2)
    ]

pub line_last : (x1 y1 x2 y2 n : ℕ) → n ≡ max (distance x1 x2) (distance y1 y2) → (line_x x1 y1 x2 y2 n ≡ x2) × (line_y x1 y1 x2 y2 n ≡ y2)
unfolding line_x line_y
line_last x1 y1 x2 y2 n e =
    elim (dec_lt (distance x1 x2) (distance y1 y2)) [
      | yes l ↦ (let m : n ≡ distance y1 y2 = omega arith in
          rw (lt-leb (distance y1 y2) (distance x1 x2) l, m, rise_full (distance y1 y2) (distance x1 x2) (omega arith)) (towards_full x1 x2, towards_full y1 y2))
      | no l ↦ (let m : n ≡ distance x1 x2 = omega arith in
          rw (le-leb (distance y1 y2) (distance x1 x2) (omega arith), m, rise_full (distance x1 x2) (distance y1 y2) (omega arith)) (towards_full x1 x2, towards_full y1 y2))
    ]

-- both are pixels of it
pub line_ends : (x1 y1 x2 y2 : ℕ) → (line x1 y1 x2 y2 x1 y1 ≡ true) × (line x1 y1 x2 y2 x2 y2 ≡ true)
line_ends x1 y1 x2 y2 =
    let a = line_first x1 y1 x2 y2 in
    let b = line_last x1 y1 x2 y2 n refl in (
      some_at (n + 1) (λ i. point (line_x x1 y1 x2 y2 i) (line_y x1 y1 x2 y2 i) x1 y1) 0 (omega arith) (rw (a.0, a.1, eq-eqb x1 x1 refl, eq-eqb y1 y1 refl)),
      some_at (n + 1) (λ i. point (line_x x1 y1 x2 y2 i) (line_y x1 y1 x2 y2 i) x2 y2) n (omega arith) (rw (b.0, b.1, eq-eqb x2 x2 refl, eq-eqb y2 y2 refl)),
    )
  where
    n : ℕ
    n = max (distance x1 x2) (distance y1 y2)

-- both distances 0: one pixel
pub line_one : (x y u v : ℕ) → line x y x y u v ≡ point x y u v
unfolding some line_x line_y towards rise
line_one x y u v =
    let ex : distance x x ≡ 0 = omega arith in
    let ey : distance y y ≡ 0 = omega arith in
    rw (ex, ey, le-ltb x x (omega arith), le-ltb y y (omega arith), sub-zero x, sub-zero y)
