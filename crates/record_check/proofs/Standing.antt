-- Bytes that stand at a place of a record, bytes that are 0, and the loops that test them.
-- Assumes nothing.
use mathlib.Core.Path.{◌≡◌, refl, sym, ap, ◌∙◌}
use mathlib.Core.Bool.{Bool, true, ◌&&◌, and_assoc, and-true}
use mathlib.Core.List.{List, [], ◌∷◌, ◌++◌}
use Prim.Native.Nat.{ℕ, zero, suc, ◌+◌, ◌-◌, ◌*◌, ◌<◌, ◌≤◌}
use native.Mathlib.Omega.{arith}
use native.Mathlib.Nat.{mul-zero, mul-suc}
use native.Mathlib.Decide.{ℕ_discrete}
use lib.Dec.{eqb}
use lib.ListN.{length, drop, replicate, drop_of_length-le}
use lib.Seq.{drop-cons, drop-drop, get_or-drop}
use native.Mathlib.Numerals.{add-one}
use borrow.Author.Tests.{eq-eqb, ne_eqb}
use Rattle.pixels.proofs.Tests.{and_yes}
use Rattle.queue.specs.Record.{at, bytes_from}
use Rattle.state.specs.Soundness.{every}
use Rattle.state.specs.Canonical.{is_zero}
use Rattle.record.specs.Record.{same_bytes}
use Rattle.std.specs.List.{list_all, range_with_len}
use Rattle.record_check.specs.Parts.{stands, clear, every_of}
use Rattle.record.proofs.Same.{both}

-- ---- part after part, and from another front

pub stands_append : (l m : List ℕ) (k : ℕ) (r : List ℕ) → stands (l ++ m) k r ≡ (stands l k r && stands m (k + length l) r)
unfolding stands
stands_append [] m k r = let z : k ≡ k + 0 = omega arith in ap (λ (n : ℕ). stands m n r) z
stands_append (a ∷ l) m k r =
    let z : k + 1 + length l ≡ k + suc (length l) = omega arith in
    ap (λ (b : Bool). eqb (at r k) a && b) (stands_append l m (k + 1) r ∙ ap (λ (n : ℕ). stands l (k + 1) r && stands m n r) z)
    ∙ sym (and_assoc (eqb (at r k) a) (stands l (k + 1) r) (stands m (k + suc (length l)) r))

-- a part of n bytes, and the rest behind it
pub stands_next : (l m : List ℕ) (k n : ℕ) (r : List ℕ) → length l ≡ n → stands (l ++ m) k r ≡ (stands l k r && stands m (k + n) r)
stands_next l m k n r e = stands_append l m k r ∙ rw e

pub stands_drop : (l : List ℕ) (j k : ℕ) (r : List ℕ) → stands l k (drop j r) ≡ stands l (j + k) r
unfolding stands
stands_drop [] j k r = refl
stands_drop (a ∷ l) j k r =
    let z : j + (k + 1) ≡ j + k + 1 = omega arith in
    rw (get_or-drop j r k 0, stands_drop l j (k + 1) r, z)

pub stands_front : (l : List ℕ) (k : ℕ) (r : List ℕ) → stands l 0 (drop k r) ≡ stands l k r
stands_front l k r = let z : k + 0 ≡ k = omega arith in stands_drop l k 0 r ∙ ap (λ (n : ℕ). stands l n r) z

-- what is read stands where it was read
pub stands_read : (r : List ℕ) (k n : ℕ) → stands (bytes_from r k n) k r ≡ true
unfolding stands bytes_from
stands_read r k zero = refl
stands_read r k (suc n) = rw (eq-eqb (at r k) (at r k) refl) (stands_read r (k + 1) n)

eqb_sym : (a b : ℕ) → eqb a b ≡ eqb b a
eqb_sym a b = elim (ℕ_discrete a b) [ yes p ↦ rw p | no q ↦ ne_eqb a b q ∙ sym (ne_eqb b a (λ r. q (sym r))) ]

same_from : (l : List ℕ) (k : ℕ) (r : List ℕ) → k + length l ≡ length r → same_bytes l (drop k r) ≡ stands l k r
unfolding stands same_bytes
same_from [] k r e = rw (drop_of_length-le r {i = k} (omega arith))
same_from (a ∷ l) k r e =
    let n : suc k ≡ k + 1 = omega arith in
    rw (drop-cons r k 0 (omega arith), eqb_sym a (at r k))
    (ap (λ (b : Bool). eqb (at r k) a && b) (ap (λ (j : ℕ). same_bytes l (drop j r)) n ∙ same_from l (k + 1) r (omega arith)))

pub stands_same : (l r : List ℕ) → length l ≡ length r → same_bytes l r ≡ stands l 0 r
stands_same l r e = same_from l 0 r (omega arith)

-- ---- bytes that are 0

pub clear_add : (n m k : ℕ) (r : List ℕ) → clear k (n + m) r ≡ (clear k n r && clear (k + n) m r)
unfolding stands
clear_add zero m k r =
    let e : 0 + m ≡ m = omega arith in
    let f : k ≡ k + 0 = omega arith in
    ap (λ (n : ℕ). clear k n r) e ∙ ap (λ (j : ℕ). clear j m r) f
clear_add (suc n) m k r =
    let e : suc n + m ≡ suc (n + m) = omega arith in
    let f : k + 1 + n ≡ k + suc n = omega arith in
    ap (λ (j : ℕ). clear k j r) e
    ∙ ap (λ (b : Bool). eqb (at r k) 0 && b) (clear_add n m (k + 1) r ∙ ap (λ (j : ℕ). clear (k + 1) n r && clear j m r) f)
    ∙ sym (and_assoc (eqb (at r k) 0) (clear (k + 1) n r) (clear (k + suc n) m r))

zeros_clear : (r : List ℕ) (k n : ℕ) → every is_zero (bytes_from r k n) ≡ clear k n r
unfolding every bytes_from stands
zeros_clear r k zero = refl
zeros_clear r k (suc n) = ap (λ (b : Bool). eqb (at r k) 0 && b) (zeros_clear r (k + 1) n)

drop_bytes : (r : List ℕ) (g k n : ℕ) → drop g (bytes_from r k n) ≡ bytes_from r (k + g) (n - g)
unfolding bytes_from
drop_bytes r zero k n =
    let e : k ≡ k + 0 = omega arith in
    let f : n ≡ n - 0 = omega arith in
    ap (λ (j : ℕ). bytes_from r j n) e ∙ ap (bytes_from r (k + 0)) f
drop_bytes r (suc g) k zero = let e : 0 ≡ 0 - suc g = omega arith in ap (bytes_from r (k + suc g)) e
drop_bytes r (suc g) k (suc n) =
    let e : k + 1 + g ≡ k + suc g = omega arith in
    let f : n - g ≡ suc n - suc g = omega arith in
    drop_bytes r g (k + 1) n ∙ ap (λ (j : ℕ). bytes_from r j (n - g)) e ∙ ap (bytes_from r (k + suc g)) f

pub zeros_from_lem : (r : List ℕ) (g k n : ℕ) → every is_zero (drop g (bytes_from r k n)) ≡ clear (k + g) (n - g) r
zeros_from_lem r g k n = ap (every is_zero) (drop_bytes r g k n) ∙ zeros_clear r (k + g) (n - g)

-- b says whether the bytes in front of k are 0
pub record Cleared (r : List ℕ) (start end k : ℕ) (b : Bool) : Type 0 where
  pub rest : (b && clear k (end - k) r) ≡ clear start (end - start) r

module _ {r : List ℕ} {start end k : ℕ} {b : Bool} (p : Cleared r start end k b) where
  pub cleared_more : {c : Bool} → k < end → c ≡ (b && eqb (at r k) 0) → Cleared r start end (k + 1) c
  unfolding stands
  cleared_more {c} h e =
      let f : suc (end - (k + 1)) ≡ end - k = omega arith in
      record { rest = rw e (and_assoc b (eqb (at r k) 0) (clear (k + 1) (end - (k + 1)) r) ∙ ap (λ (n : ℕ). b && clear k n r) f ∙ p.rest) }

  pub cleared_end : end ≤ k → b ≡ clear start (end - start) r
  unfolding stands
  cleared_end h = let f : 0 ≡ end - k = omega arith in sym (and-true b) ∙ ap (λ (n : ℕ). b && clear k n r) f ∙ p.rest

-- ---- thing by thing

pub every_clear : (one : List ℕ → Bool) (size : ℕ) → ((l : List ℕ) → clear 0 size l ≡ true → one l ≡ true) → (n : ℕ) (l : List ℕ) → clear 0 (size * n) l ≡ true
    → every_of one size l n ≡ true
unfolding every_of
every_clear one size f zero l e = refl
every_clear one size f (suc n) l e =
    let s : size * suc n ≡ size + size * n = omega (arith, mul-suc size n) in
    let z : size + 0 ≡ 0 + size = omega arith in
    let h = both (clear 0 size l) (clear (0 + size) (size * n) l) (sym (clear_add size (size * n) 0 l) ∙ ap (λ (j : ℕ). clear 0 j l) (sym s) ∙ e) in
    and_yes (one l) (every_of one size (drop size l) n) (f l h.0)
    (every_clear one size f n (drop size l) (stands_drop (replicate (size * n) 0) size 0 l ∙ ap (λ (j : ℕ). clear j (size * n) l) z ∙ h.1))

-- by their numbers
module _ (one : List ℕ → Bool) (size k : ℕ) (r : List ℕ) where
  every_from : (n i : ℕ) → list_all (λ j. one (drop (k + size * j) r)) (range_with_len i n) ≡ every_of one size (drop (k + size * i) r) n
  unfolding every_of
  every_from zero i = refl
  every_from (suc n) i =
      let z : k + size * (i + 1) ≡ k + size * i + size = omega (arith, mul-suc size i, ap (λ (j : ℕ). size * j) (add-one i)) in
      ap (λ (t : Bool). one (drop (k + size * i) r) && t) (every_from n (i + 1) ∙ ap (λ (j : ℕ). every_of one size (drop j r) n) z ∙ ap (λ (l : List ℕ). every_of one size l n) (sym (drop-drop size (k + size * i) r)))

  pub every_numbered : (n : ℕ) (t : Bool) → t ≡ list_all (λ j. one (drop (k + size * j) r)) (range_with_len 0 n) → t ≡ every_of one size (drop k r) n
  every_numbered n t e = let z : k + size * 0 ≡ k = omega (arith, mul-zero size) in e ∙ every_from n 0 ∙ ap (λ (j : ℕ). every_of one size (drop j r) n) z
