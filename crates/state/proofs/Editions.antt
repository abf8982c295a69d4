-- An edition that there is: what holds at both holds of it.
-- Assumes nothing.
use mathlib.Core.Path.{◌≡◌, refl}
use mathlib.Core.Bool.{Bool, true, false, ◌||◌}
use Prim.Native.Nat.{ℕ, ◌<◌}
use native.Mathlib.Omega.{arith}
use lib.Dec.{eqb}
use borrow.Author.Tests.{eqb-true}
use Rattle.state.specs.Editions.{older, newer, is_edition}

either : (P : ℕ → Type 0) → P older → P newer → (n : ℕ) (a : Bool) → eqb n older ≡ a → (a || eqb n newer) ≡ true → P n
either P old new n true e f = rw (eqb-true n older e) old
either P old new n false e f = rw (eqb-true n newer f) new

pub at_editions : (P : ℕ → Type 0) → P older → P newer → (n : ℕ) → is_edition n ≡ true → P n
unfolding is_edition
at_editions P old new n e = either P old new n (eqb n older) refl e

pub edition_fits : (n : ℕ) → is_edition n ≡ true → n < 256
edition_fits n e = at_editions (λ (k : ℕ). k < 256) (omega arith) (omega arith) n e
