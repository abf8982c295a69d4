-- A test of every element of a list: of a list with an element put anew, and of its elements.
-- Assumes nothing.
use mathlib.Core.Path.{◌≡◌, refl}
use mathlib.Core.Bool.{Bool, true}
use mathlib.Core.List.{List, [], ◌∷◌}
use Prim.Native.Nat.{ℕ, zero, suc}
use lib.ListN.{get_or, set, drop}
use Rattle.pixels.proofs.Tests.{and_one, and_two, and_yes}
use Rattle.state.specs.Soundness.{every}

module _ {A : Type 0} (f : A → Bool) where
  pub every_set : (l : List A) (i : ℕ) (a : A) → every f l ≡ true → f a ≡ true → every f (set l i a) ≡ true
  unfolding every
  every_set [] i a p q = refl
  every_set (x ∷ l) zero a p q = and_yes (f a) (every f l) q (and_two (f x) (every f l) p)
  every_set (x ∷ l) (suc i) a p q = and_yes (f x) _ (and_one (f x) (every f l) p) (every_set l i a (and_two (f x) (every f l) p) q)

  -- behind the end there is d
  pub every_at : (l : List A) (i : ℕ) (d : A) → f d ≡ true → every f l ≡ true → f (get_or l i d) ≡ true
  unfolding every
  every_at [] i d q p = q
  every_at (x ∷ l) zero d q p = and_one (f x) (every f l) p
  every_at (x ∷ l) (suc i) d q p = every_at l i d q (and_two (f x) (every f l) p)

  pub every_tail : (l : List A) → every f l ≡ true → every f (drop 1 l) ≡ true
  unfolding every
  every_tail [] p = refl
  every_tail (x ∷ l) p = and_two (f x) (every f l) p
