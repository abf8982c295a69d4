-- Bools: what a test says, both ways of a test, and a test computed at every number below a bound.
-- Assumes nothing.
use mathlib.Core.Path.{◌≡◌, refl, sym}
use mathlib.Core.Bool.{Bool, true, false, cond, ◌&&◌, ◌||◌, beq, false≢true, true≢false}
use Prim.Native.Nat.{ℕ, zero, suc, ◌<◌}
use native.Mathlib.Omega.{arith}
use native.Mathlib.Nat.{not-suc-le-zero}
use native.Mathlib.Decide.{ℕ_discrete}

pub and_one : (a b : Bool) → (a && b) ≡ true → a ≡ true
and_one true b e = refl
and_one false b e = e

pub and_two : (a b : Bool) → (a && b) ≡ true → b ≡ true
and_two true b e = e
and_two false b e = absurd (false≢true e)

pub and_yes : (a b : Bool) → a ≡ true → b ≡ true → (a && b) ≡ true
and_yes a b p q = rw (p, q)

pub and_no : (a b : Bool) → (a && b) ≡ false → a ≡ true → b ≡ false
and_no true b e h = e
and_no false b e h = absurd (false≢true h)

pub or_one : (a b : Bool) → (a || b) ≡ false → a ≡ false
or_one true b e = e
or_one false b e = refl

pub or_two : (a b : Bool) → (a || b) ≡ false → b ≡ false
or_two true b e = absurd (true≢false e)
or_two false b e = e

-- two tests that follow from each other are the same
pub iff : (s t : Bool) → (s ≡ true → t ≡ true) → (t ≡ true → s ≡ true) → s ≡ t
iff true t f h = sym (f refl)
iff false true f h = h refl
iff false false f h = refl

-- both ways of a test
pub by_test : {A : Type 0} (P : A → Type 0) (t : Bool) (x y : A) → (t ≡ true → P x) → (t ≡ false → P y) → P (cond t x y)
by_test P true x y f g = f refl
by_test P false x y f g = g refl

-- ---- one computed test

abbrev pub all : ℕ → (ℕ → Bool) → Bool
all zero f = true
all (suc n) f = f n && all n f

pub all_at : (n : ℕ) (f : ℕ → Bool) → all n f ≡ true → (k : ℕ) → k < n → f k ≡ true
all_at zero f e k h = absurd (not-suc-le-zero h)
all_at (suc n) f e k h =
    elim (ℕ_discrete k n) [ yes p ↦ rw p (and_one (f n) (all n f) e) | no q ↦ all_at n f (and_two (f n) (all n f) e) k (omega arith) ]

pub same : (a b : Bool) → beq a b ≡ true → a ≡ b
same true true e = refl
same true false e = sym e
same false true e = e
same false false e = refl

-- two tables of m by n agree
pub agree : (m n : ℕ) (f h : ℕ → ℕ → Bool) → all m (λ k. all n (λ j. beq (f k j) (h k j))) ≡ true → (k j : ℕ) → k < m → j < n → f k j ≡ h k j
agree m n f h e k j hk hj =
    same (f k j) (h k j) (all_at n (λ j. beq (f k j) (h k j)) (all_at m (λ k. all n (λ j. beq (f k j) (h k j))) e k hk) j hj)
