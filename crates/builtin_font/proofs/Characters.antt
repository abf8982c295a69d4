-- The rows of a character: one way for each, and one for all others.
-- Assumes nothing.
use mathlib.Core.Path.{◌≡◌, sym, ap}
use mathlib.Core.List.{[], ◌∷◌}
use Prim.Native.Nat.{ℕ, zero, suc, ◌+◌, ◌-◌, ◌*◌, ◌≤◌}
use native.Mathlib.Omega.{arith}
use native.Mathlib.Decide.{dec_lt}
use borrow.Author.Tests.{le-leb, lt-leb}
use Rattle.builtin_font.specs.Shapes.{five_from, rows_of}

pub rows_at : (n k : ℕ) → n ≡ k → rows_of k ≡ rows_of n
rows_at n k e = ap rows_of (sym e)

-- P, and n is none of m numbers from k on
abbrev pub Others : ℕ → Type 0 → ℕ → ℕ → Type 0
Others n P k zero = P
Others n P k (suc m) = Others n (P × (n ≡ k → ⊥)) (k + 1) m

pub record Outside (n k m : ℕ) : Type 0 where
  pub beyond : k ≤ n → k + m ≤ n

others : (n : ℕ) (P : Type 0) (k m : ℕ) → Others n P k m → P × Outside n k m
others n P k zero h = (h, record { beyond = λ l. omega arith })
others n P k (suc m) h =
    let q = others n (P × (n ≡ k → ⊥)) (k + 1) m h in (
      q.0.0,
      record {
        beyond = λ l.
            elim (dec_lt k n) [
              | yes s ↦ (let b = q.1.beyond (omega arith) in omega (arith, b))
              | no s ↦ absurd (q.0.1 (omega arith))
            ];
      },
    )

pub no_rows : (n : ℕ) → Others n Unit 32 95 → (0 ∷ 0 ∷ 0 ∷ 0 ∷ 0 ∷ []) ≡ rows_of n
unfolding rows_of
no_rows n h =
    let o = (others n Unit 32 95 h).1 in
    elim (dec_lt n 32) [
      | yes s ↦ rw (lt-leb 32 n s)
      | no s ↦ (let b = o.beyond (omega arith) in rw (le-leb 32 n (omega arith), lt-leb n 126 (omega (arith, b))))
    ]

pub rows_are : (n : ℕ) → 32 ≤ n → n ≤ 126 → rows_of n ≡ five_from (289 + 5 * (n - 32))
unfolding rows_of
rows_are n h k = rw (le-leb 32 n h, le-leb n 126 k)
