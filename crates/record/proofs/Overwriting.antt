-- Bytes written over others: part after part, byte by byte, and thing by thing.
-- Assumes nothing.
use mathlib.Core.Path.{◌≡◌, refl, sym, ap, ◌∙◌}
use mathlib.Core.List.{List, [], ◌∷◌, ◌++◌, append_assoc, append-nil}
use Prim.Native.Nat.{ℕ, suc, ◌+◌, ◌-◌, ◌*◌, ◌≤◌, min}
use native.Mathlib.Omega.{arith}
use native.Mathlib.Nat.{mul-zero, mul-suc}
use native.Mathlib.Numerals.{add-one}
use native.Mathlib.Decide.{dec_lt}
use lib.ListN.{length, drop, take, set, length-set, length-append, take-append-drop, drop_of_length-le}
use lib.Seq.{set_out, take-suc-set, drop-set-lt, take_all, take-nil, drop-drop}
use borrow.Rule.Slice.PartMut.{put_mid}
use Rattle.record.specs.Writing.{over, many_bytes}

pub length_over : (l : List ℕ) (k : ℕ) (g : List ℕ) → length (over l k g) ≡ length g
unfolding over
length_over [] k g = refl
length_over (b ∷ l) k g = length_over l (k + 1) (set g k b) ∙ length-set g k b

pub over_out : (l : List ℕ) (k : ℕ) (g : List ℕ) → length g ≤ k → over l k g ≡ g
unfolding over
over_out [] k g h = refl
over_out (b ∷ l) k g h = ap (over l (k + 1)) (set_out g k b h) ∙ over_out l (k + 1) g (omega arith)

over_append : (l m : List ℕ) (k : ℕ) (g : List ℕ) → over (l ++ m) k g ≡ over m (k + length l) (over l k g)
unfolding over
over_append [] m k g = let z : k ≡ k + 0 = omega arith in ap (λ (n : ℕ). over m n g) z
over_append (b ∷ l) m k g =
    let z : k + 1 + length l ≡ k + suc (length l) = omega arith in
    over_append l m (k + 1) (set g k b) ∙ ap (λ (n : ℕ). over m n (over l (k + 1) (set g k b))) z

-- a part of n bytes is written; the rest follows behind it
pub over_next : (l m : List ℕ) (k n : ℕ) (g h : List ℕ) → length l ≡ n → h ≡ over l k g → over (l ++ m) k g ≡ over m (k + n) h
over_next l m k n g h e f = over_append l m k g ∙ rw (e, f)

-- ---- all of it, from the front on

take_zero : {A : Type 0} (n : ℕ) (l : List A) → n ≡ 0 → take n l ≡ []
take_zero n l e = rw e

take_more : {A : Type 0} (n m : ℕ) (a : A) (l : List A) → n ≡ suc m → take n (a ∷ l) ≡ a ∷ take m l
take_more n m a l e = rw e

pub over_is : (l : List ℕ) (k : ℕ) (g : List ℕ) → k ≤ length g → over l k g ≡ take k g ++ (take (length g - k) l ++ drop (k + length l) g)
unfolding over
over_is [] k g h = let z : k + 0 ≡ k = omega arith in rw (take-nil (length g - k), z) (sym (take-append-drop k g))
over_is (b ∷ l) k g h =
    elim (dec_lt k (length g)) [
      | yes s ↦ (let n : length g - k ≡ suc (length g - suc k) = omega arith in
          let m : suc k + length l ≡ k + suc (length l) = omega arith in
          over_is l (k + 1) (set g k b) (omega (arith, length-set g k b))
          ∙ rw (
            length-set g k b,
            drop-set-lt (k + 1 + length l) g k b (omega arith),
            add-one k,
            take-suc-set g k b s,
            append_assoc,
            take_more (length g - k) (length g - suc k) b l n,
            m,
          ))
      | no s ↦ (let n : length g - k ≡ 0 = omega arith in
          over_out l (k + 1) (set g k b) (omega (arith, length-set g k b))
          ∙ set_out g k b (omega arith)
          ∙ rw (take_zero (length g - k) (b ∷ l) n, take_all k g (omega arith), drop_of_length-le g {i = k + suc (length l)} (omega arith)) (sym (append-nil g)))
    ]

pub over_front : (l g : List ℕ) → over l 0 g ≡ take (length g) l ++ drop (length l) g
over_front l g =
    let z : 0 + length l ≡ length l = omega arith in
    let n : length g - 0 ≡ length g = omega arith in
    over_is l 0 g (omega arith) ∙ rw (z, n)

-- of one length: nothing of g is left
pub over_all : (l g : List ℕ) → length l ≡ length g → over l 0 g ≡ l
over_all l g e = over_front l g ∙ rw (take_all (length g) l (omega arith), drop_of_length-le g {i = length l} (omega arith)) (append-nil l)

-- ---- as many of l as there is room for

take_part : (l : List ℕ) (m n : ℕ) → n ≡ min (length l) m → take n l ≡ take m l
take_part l m n e =
    elim (dec_lt m (length l)) [
      | yes s ↦ (let i : n ≡ m = omega arith in rw i)
      | no s ↦ take_all n l (omega arith) ∙ sym (take_all m l (omega arith))
    ]

drop_part : (l g : List ℕ) (k n : ℕ) → n ≡ min (length l) (length g - k) → drop (k + n) g ≡ drop (k + length l) g
drop_part l g k n e =
    elim (dec_lt (length g - k) (length l)) [
      | yes s ↦ drop_of_length-le g {i = k + n} (omega arith) ∙ sym (drop_of_length-le g {i = k + length l} (omega arith))
      | no s ↦ (let i : n ≡ length l = omega arith in rw i)
    ]

-- h, the first of l, as many as there is room for from k on
pub over_part : (l g h : List ℕ) (k f n e : ℕ) → f ≡ min k (length g) → n ≡ min (length l) (length g - f) → e ≡ f + n → h ≡ take n l → put_mid f (e - f) g h ≡ over l k g
over_part l g h k f n e ef en ee eh =
    let d : e - f ≡ n = omega arith in
    elim (dec_lt (length g) k) [
      | yes s ↦ (let a : f ≡ length g = omega arith in
          let b : n ≡ 0 = omega arith in
          rw (eh, d, b, a, take_all (length g) g (omega arith), drop_of_length-le g {i = length g} (omega arith)) (append-nil g ∙ sym (over_out l k g (omega arith))))
      | no s ↦ (let a : f ≡ k = omega arith in
          let m : n ≡ min (length l) (length g - k) = omega arith in
          rw (eh, d, a, drop-drop n k g, take_part l (length g - k) n m, drop_part l g k n m) (sym (over_is l k g (omega arith))))
    ]

-- ---- thing by thing, each of `size` bytes

module _ {A : Type 0} (one : A → List ℕ) (size : ℕ) where
  pub length-many_bytes : ((a : A) → length (one a) ≡ size) → (l : List A) → length (many_bytes one l) ≡ size * length l
  unfolding many_bytes
  length-many_bytes f [] = sym (mul-zero size)
  length-many_bytes f (a ∷ l) = length-append (one a) (many_bytes one l) ∙ rw (f a, length-many_bytes f l) (omega (arith, mul-suc size (length l)))
