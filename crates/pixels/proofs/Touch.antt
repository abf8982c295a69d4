-- The search for a pixel of a footprint in a rectangle: what both of its answers say.
-- Assumes nothing.
use mathlib.Core.Path.{◌≡◌, refl, sym, ◌∙◌}
use mathlib.Core.Bool.{Bool, true, false, ◌&&◌, ◌||◌, false≢true, true≢false}
use Prim.Native.Nat.{ℕ, zero, suc, ◌+◌, ◌<◌, ◌≤◌}
use native.Mathlib.Omega.{arith}
use native.Mathlib.Nat.{not-suc-le-zero}
use native.Mathlib.Decide.{ℕ_discrete}
use Rattle.pixels.specs.Framebuffer.{Region}
use Rattle.pixels.specs.Regions.{within, rectangle, some, touches}
use Rattle.pixels.proofs.Tests.{and_one, and_two, and_no, or_one, or_two}
use Rattle.pixels.proofs.Intervals.{within_true}

pub some_no : (n : ℕ) (f : ℕ → Bool) → some n f ≡ false → (k : ℕ) → k < n → f k ≡ false
unfolding some
some_no zero f e k h = absurd (not-suc-le-zero h)
some_no (suc n) f e k h =
    elim (ℕ_discrete k n) [ yes q ↦ rw q (or_two (some n f) (f n) e) | no q ↦ some_no n f (or_one (some n f) (f n) e) k (omega arith) ]

pub some_yes : (n : ℕ) (f : ℕ → Bool) → some n f ≡ true → (k : ℕ) × (k < n) × (f k ≡ true)
unfolding some
some_yes zero f e = absurd (false≢true e)
some_yes (suc n) f e = which (some n f) (f n) (some_yes n f) refl e
  where
    which : (s b : Bool) → (s ≡ true → (k : ℕ) × (k < n) × (f k ≡ true)) → f n ≡ b → (s || b) ≡ true → (k : ℕ) × (k < suc n) × (f k ≡ true)
    which s true r q t = (n, omega arith, q)
    which true false r q t = let k = r refl in (k.0, omega (arith, k.1), k.2)
    which false false r q t = absurd (false≢true t)

pub some_at : (n : ℕ) (f : ℕ → Bool) (k : ℕ) → k < n → f k ≡ true → some n f ≡ true
some_at n f k h e = which (some n f) (some_no n f)
  where
    which : (s : Bool) → (s ≡ false → (i : ℕ) → i < n → f i ≡ false) → s ≡ true
    which true none = refl
    which false none = absurd (true≢false (sym e ∙ none refl k h))

pub some_same : (n : ℕ) (f h : ℕ → Bool) → ((i : ℕ) → f i ≡ h i) → some n f ≡ some n h
unfolding some
some_same zero f h e = refl
some_same (suc n) f h e = rw (some_same n f h e, e n)

pub rectangle_true : (x1 y1 x2 y2 x y : ℕ) → rectangle x1 y1 x2 y2 x y ≡ true → (x1 ≤ x) × (x < x2 + 1) × (y1 ≤ y) × (y < y2 + 1)
rectangle_true x1 y1 x2 y2 x y e =
    let s = within_true x1 (x2 + 1) x (and_one _ (within y1 (y2 + 1) y) e) in
    let t = within_true y1 (y2 + 1) y (and_two (within x1 (x2 + 1) x) _ e) in (s.0, s.1, t.0, t.1)

-- IT SAYS NO ONLY WHERE THERE IS NONE
pub touches_no : (f : Region) (x1 y1 x2 y2 : ℕ) → touches f x1 y1 x2 y2 ≡ false → (x y : ℕ) → rectangle x1 y1 x2 y2 x y ≡ true → f x y ≡ false
unfolding touches
touches_no f x1 y1 x2 y2 e x y r =
    let t = rectangle_true x1 y1 x2 y2 x y r in
    and_no (rectangle x1 y1 x2 y2 x y) (f x y)
    (some_no (y2 + 1) (λ y. rectangle x1 y1 x2 y2 x y && f x y)
    (some_no (x2 + 1) (λ x. some (y2 + 1) (λ y. rectangle x1 y1 x2 y2 x y && f x y)) e x t.1) y t.3) r

-- and yes only where there is one
pub touches_yes : (f : Region) (x1 y1 x2 y2 : ℕ) → touches f x1 y1 x2 y2 ≡ true → (x : ℕ) × (y : ℕ) × (rectangle x1 y1 x2 y2 x y ≡ true) × (f x y ≡ true)
unfolding touches
touches_yes f x1 y1 x2 y2 e =
    let s = some_yes (x2 + 1) (λ x. some (y2 + 1) (λ y. rectangle x1 y1 x2 y2 x y && f x y)) e in
    let t = some_yes (y2 + 1) (λ y. rectangle x1 y1 x2 y2 s.0 y && f s.0 y) s.2 in
    (s.0, t.0, and_one (rectangle x1 y1 x2 y2 s.0 t.0) (f s.0 t.0) t.2, and_two (rectangle x1 y1 x2 y2 s.0 t.0) (f s.0 t.0) t.2)
