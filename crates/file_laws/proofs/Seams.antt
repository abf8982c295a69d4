-- Bytes written behind the seam of two lists.
-- Assumes nothing.
use mathlib.Core.Path.{◌≡◌, ap}
use mathlib.Core.List.{List, [], ◌∷◌, ◌++◌, append_assoc}
use Prim.Native.Nat.{ℕ, zero, suc, ◌+◌}
use native.Mathlib.Omega.{arith}
use lib.ListN.{length, drop, set}
use lib.Seq.{paste, take_at, drop-append-add, take-append-add, take_all}

pub set_right : (xs ys : List ℕ) (i n a : ℕ) → n ≡ length xs + i → set (xs ++ ys) n a ≡ xs ++ set ys i a
set_right [] ys i n a h = let e : n ≡ i = omega arith in rw e
set_right (x ∷ xs) ys i zero a h = absurd (omega arith)
set_right (x ∷ xs) ys i (suc n) a h = ap (λ (l : List ℕ). x ∷ l) (set_right xs ys i n a (omega arith))

-- m elements pasted at the seam
pub paste_seam : (w t r u : List ℕ) (n m : ℕ) → length w ≡ n → length r ≡ m → paste (w ++ t) n (r ++ u) m ≡ w ++ (r ++ drop m t)
paste_seam w t r u n m h k =
    let d : drop (n + m) (w ++ t) ≡ drop m t = rw (← h) (drop-append-add w t m) in
    rw (take_at w t n h, take_at r u m k, d, append_assoc)

pub paste_whole : (w t r : List ℕ) (n m : ℕ) → length w ≡ n → length r ≡ m → paste (w ++ t) n r m ≡ w ++ (r ++ drop m t)
paste_whole w t r n m h k =
    let d : drop (n + m) (w ++ t) ≡ drop m t = rw (← h) (drop-append-add w t m) in
    rw (take_at w t n h, take_all m r (omega arith), d, append_assoc)

-- behind the seam
pub paste_right : (d t r : List ℕ) (a n m : ℕ) → n ≡ length d + a → paste (d ++ t) n r m ≡ d ++ paste t a r m
paste_right d t r a n m h =
    let e : n + m ≡ length d + (a + m) = omega arith in
    rw (e, h, take-append-add d t a, drop-append-add d t (a + m), append_assoc, append_assoc, append_assoc)
