-- Things of one size that stand one behind another in a record.
-- Assumes nothing.
use mathlib.Core.Path.{◌≡◌, refl, ap, ◌∙◌}
use mathlib.Core.List.{List}
use Prim.Native.Nat.{ℕ, zero, suc, ◌+◌, ◌*◌, ◌<◌}
use native.Mathlib.Omega.{arith}
use native.Mathlib.Nat.{mul-zero, mul-suc}
use lib.ListN.{length, get_or, drop}
use lib.Seq.{drop-drop}
use Rattle.record.specs.Reading.{many_of}

module _ {A : Type 0} where
  pub length-many : (one : List ℕ → A) (size : ℕ) (l : List ℕ) (n : ℕ) → length (many_of one size l n) ≡ n
  unfolding many_of
  length-many one size l zero = refl
  length-many one size l (suc n) = ap suc (length-many one size (drop size l) n)

  pub many_at : (one : List ℕ → A) (size : ℕ) (l : List ℕ) (n i : ℕ) (d : A) → i < n → get_or (many_of one size l n) i d ≡ one (drop (size * i) l)
  unfolding many_of
  many_at one size l zero i d h = absurd (omega arith)
  many_at one size l (suc n) zero d h = rw (mul-zero size)
  many_at one size l (suc n) (suc i) d h =
      let e : size + size * i ≡ size * suc i = omega (arith, mul-suc size i) in
      many_at one size (drop size l) n i d (omega arith) ∙ ap one (drop-drop (size * i) size l) ∙ ap (λ (k : ℕ). one (drop k l)) e
