-- A height that there is: what holds at both holds of it.
-- Assumes nothing.
use mathlib.Core.Path.{◌≡◌, refl}
use mathlib.Core.Bool.{Bool, true, false, ◌||◌}
use Prim.Native.Nat.{ℕ, ◌<◌, ◌≤◌}
use native.Mathlib.Omega.{arith}
use lib.Dec.{eqb}
use borrow.Author.Tests.{eqb-true}
use Rattle.canvas.specs.Sizes.{low_height, tall_height, is_height}

either : (P : ℕ → Type 0) → P low_height → P tall_height → (h : ℕ) (a : Bool) → eqb h low_height ≡ a → (a || eqb h tall_height) ≡ true → P h
either P low tall h true e f = rw (eqb-true h low_height e) low
either P low tall h false e f = rw (eqb-true h tall_height f) tall

-- what is computed at both
pub at_heights : (P : ℕ → Type 0) → P low_height → P tall_height → (h : ℕ) → is_height h ≡ true → P h
unfolding is_height
at_heights P low tall h e = either P low tall h (eqb h low_height) refl e

pub height_some : (h : ℕ) → is_height h ≡ true → 0 < h
height_some h e = at_heights (λ (n : ℕ). 0 < n) (omega arith) (omega arith) h e

pub height_fits : (h : ℕ) → is_height h ≡ true → h < 256
height_fits h e = at_heights (λ (n : ℕ). n < 256) (omega arith) (omega arith) h e

pub height_most : (h : ℕ) → is_height h ≡ true → h ≤ tall_height
height_most h e = at_heights (λ (n : ℕ). n ≤ tall_height) (omega arith) (omega arith) h e
