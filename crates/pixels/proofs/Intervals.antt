-- Intervals: in, before, after, empty, one more, and equal to another.
-- Assumes nothing.
use mathlib.Core.Path.{◌≡◌, ◌∙◌}
use mathlib.Core.Bool.{true, false, ◌||◌, and-false, or-true, or-false}
use Prim.Native.Nat.{ℕ, ◌+◌, ◌<◌, ◌≤◌, min}
use native.Mathlib.Omega.{arith}
use native.Mathlib.Decide.{dec_lt, ℕ_discrete}
use lib.Dec.{eqb, ltb, leb}
use borrow.Author.Tests.{eq-eqb, ne_eqb, lt-ltb, le-ltb, le-leb, lt-leb, leb-true, ltb-true, eqb-true}
use Rattle.pixels.specs.Regions.{within, point}
use Rattle.pixels.proofs.Tests.{iff, and_one, and_two}

pub within_yes : (a b n : ℕ) → a ≤ n → n < b → within a b n ≡ true
unfolding within
within_yes a b n h k = rw (le-leb a n h, lt-ltb n b k)

pub within_before : (a b n : ℕ) → n < a → within a b n ≡ false
unfolding within
within_before a b n h = rw (lt-leb a n h)

pub within_after : (a b n : ℕ) → b ≤ n → within a b n ≡ false
unfolding within
within_after a b n h = rw (le-ltb n b h) (and-false (leb a n))

pub within_none : (a n : ℕ) → within a a n ≡ false
within_none a n = elim (dec_lt n a) [ yes h ↦ within_before a a n h | no h ↦ within_after a a n (omega arith) ]

pub within_true : (a b n : ℕ) → within a b n ≡ true → (a ≤ n) × (n < b)
unfolding within
within_true a b n e = (leb-true a n (and_one (leb a n) (ltb n b) e), ltb-true n b (and_two (leb a n) (ltb n b) e))

-- one more
pub within_more : (a b n : ℕ) → a ≤ b → (within a b n || eqb n b) ≡ within a (b + 1) n
within_more a b n h =
    elim (dec_lt n a) [
      | yes l ↦ rw (within_before a b n l, within_before a (b + 1) n l, ne_eqb n b (omega arith))
      | no l ↦ (elim (dec_lt n b) [
        | yes m ↦ rw (within_yes a b n (omega arith) m, within_yes a (b + 1) n (omega arith) (omega arith))
        | no m ↦ (elim (ℕ_discrete n b) [
          | yes e ↦ rw (eq-eqb n b e, within_yes a (b + 1) n (omega arith) (omega arith)) (or-true (within a b n))
          | no k ↦ rw (within_after a b n (omega arith), within_after a (b + 1) n (omega arith), ne_eqb n b k)
        ])
      ])
    ]

-- two intervals that hold the same of two numbers
pub within_iff : (a b n a' b' n' : ℕ) → (a ≤ n → n < b → (a' ≤ n') × (n' < b')) → (a' ≤ n' → n' < b' → (a ≤ n) × (n < b)) → within a b n ≡ within a' b' n'
within_iff a b n a' b' n' f h =
    iff (within a b n) (within a' b' n')
    (λ e. let t = within_true a b n e in let u = f t.0 t.1 in within_yes a' b' n' u.0 u.1)
    (λ e. let t = within_true a' b' n' e in let u = h t.0 t.1 in within_yes a b n u.0 u.1)

-- an interval and one that begins in it, or at its end
pub within_over : (a b i j n : ℕ) → a ≤ i → i ≤ b → b ≤ j → (within a b n || within i j n) ≡ within a j n
within_over a b i j n h k l =
    elim (dec_lt n b) [
      | yes p ↦ (elim (dec_lt n i) [
        | yes q ↦ rw (within_before i j n q, or-false (within a b n)) (within_iff a b n a j n (omega arith) (omega arith))
        | no q ↦ rw (within_yes a b n (omega arith) p, within_yes a j n (omega arith) (omega arith))
      ])
      | no p ↦ rw (within_after a b n (omega arith)) (within_iff i j n a j n (omega arith) (omega arith))
    ]

-- an interval and the one behind it
pub within_join : (a b c n : ℕ) → a ≤ b → b ≤ c → (within a b n || within b c n) ≡ within a c n
within_join a b c n h k = within_over a b b c n h (omega arith) k

-- one more in front
pub within_less : (a b n : ℕ) → a < b → (within (a + 1) b n || eqb n a) ≡ within a b n
within_less a b n h =
    elim (ℕ_discrete n a) [
      | yes e ↦ rw (eq-eqb n a e, within_yes a b n (omega arith) (omega arith)) (or-true (within (a + 1) b n))
      | no k ↦ rw (ne_eqb n a k) (or-false (within (a + 1) b n) ∙ within_iff (a + 1) b n a b n (omega arith) (omega arith))
    ]

-- an interval that is cut at a bound holds the same numbers below the bound
pub within_cut : (a b w n : ℕ) → n < w → within a (min b w) n ≡ within a b n
within_cut a b w n h = within_iff a (min b w) n a b n (omega arith) (omega arith)

-- an interval of one
pub within_one : (a n : ℕ) → within a (a + 1) n ≡ eqb n a
within_one a n =
    elim (ℕ_discrete n a) [
      | yes e ↦ rw (eq-eqb n a e, within_yes a (a + 1) n (omega arith) (omega arith))
      | no k ↦ rw (ne_eqb n a k) (elim (dec_lt n a) [ yes l ↦ within_before a (a + 1) n l | no l ↦ within_after a (a + 1) n (omega arith) ])
    ]

pub point_true : (x y u v : ℕ) → point x y u v ≡ true → (u ≡ x) × (v ≡ y)
point_true x y u v e = (eqb-true u x (and_one (eqb u x) (eqb v y) e), eqb-true v y (and_two (eqb u x) (eqb v y) e))
