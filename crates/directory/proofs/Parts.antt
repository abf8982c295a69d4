-- Parts of lent bytes, cut where the bytes end.
-- Assumes nothing.
use mathlib.Core.Path.{◌≡◌, ◌∙◌, sym, ap}
use mathlib.Core.List.{List}
use Prim.Native.Nat.{ℕ, ◌+◌, ◌-◌, min}
use native.Mathlib.Omega.{arith}
use lib.ListN.{length, take, drop, length-drop, drop_of_length-le}
use lib.Seq.{take_all}
use native.Mathlib.Decide.{dec_lt}

drop_clamped : (l : List ℕ) (a k : ℕ) → k ≡ min a (length l) → drop k l ≡ drop a l
drop_clamped l a k e =
    elim (dec_lt a (length l)) [
      | yes h ↦ (let t : k ≡ a = omega arith in ap (λ (n : ℕ). drop n l) t)
      | no h ↦ drop_of_length-le l {i = k} (omega arith) ∙ sym (drop_of_length-le l {i = a} (omega arith))
    ]

take_clamped : (l : List ℕ) (n k : ℕ) → k ≡ min n (length l) → take k l ≡ take n l
take_clamped l n k e =
    elim (dec_lt n (length l)) [
      | yes h ↦ (let t : k ≡ n = omega arith in ap (λ (m : ℕ). take m l) t)
      | no h ↦ take_all k l (omega arith) ∙ sym (take_all n l (omega arith))
    ]

pub rest_is : (l : List ℕ) (a k : ℕ) → k ≡ min a (length l) → take (length l - k) (drop k l) ≡ drop a l
rest_is l a k e = take_all (length l - k) (drop k l) (omega (arith, length-drop k l)) ∙ drop_clamped l a k e

pub part_is : (l : List ℕ) (a n k m : ℕ) → k ≡ min a (length l) → m ≡ min n (length l - k) → take (k + m - k) (drop k l) ≡ take n (drop a l)
part_is l a n k m e f =
    take_clamped (drop k l) n (k + m - k) (omega (arith, length-drop k l)) ∙ ap (take n) (drop_clamped l a k e)
