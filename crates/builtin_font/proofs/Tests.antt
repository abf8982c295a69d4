-- Tests that compute, and what each says of every number or of every two places.
-- Assumes nothing.
use mathlib.Core.Path.{◌≡◌, refl, sym}
use mathlib.Core.List.{List, [], ◌∷◌}
use mathlib.Core.Bool.{Bool, true, false, ◌&&◌}
use Prim.Native.Nat.{ℕ, zero, suc, ◌≤◌, ◌<◌}
use native.Mathlib.Omega.{arith}
use lib.Dec.{eqb, leb, ltb}
use lib.ListN.{length, get_or}
use borrow.Author.Tests.{eqb-true, eqb-false, eq-eqb, ne_eqb, leb-true, ltb-true, ltb-false}
use Rattle.fonts.proofs.Laws.{and_left, and_right}
use Rattle.builtin_font.specs.Shapes.{from_last, unlike, differing, distance}

-- ---- every number below n

unfoldable pub all_below : ℕ → (ℕ → Bool) → Bool
all_below zero f = true
all_below (suc n) f = f n && all_below n f

below_or_at : (f : ℕ → Bool) (n k : ℕ) (t : Bool) → eqb k n ≡ t → k < suc n → f n ≡ true → (k < n → f k ≡ true) → f k ≡ true
below_or_at f n k true e l h g = let q : k ≡ n = eqb-true k n e in rw q h
below_or_at f n k false e l h g = g (omega (arith, eqb-false k n e))

pub below : (n : ℕ) (f : ℕ → Bool) → all_below n f ≡ true → (k : ℕ) → k < n → f k ≡ true
unfolding all_below
below zero f h k l = absurd (omega arith)
below (suc n) f h k l =
    below_or_at f n k (eqb k n) refl l (and_left (f n) (all_below n f) h) (λ m. below n f (and_right (f n) (all_below n f) h) k m)

-- ---- shapes that are some pixels apart

-- a shape is at least m pixels from each of a list
unfoldable pub far_from : ℕ → ℕ → List ℕ → Bool
far_from m x [] = true
far_from m x (y ∷ l) = leb m (distance x y) && far_from m x l

-- each two of a list are at least m pixels apart
unfoldable pub all_apart : ℕ → List ℕ → Bool
all_apart m [] = true
all_apart m (x ∷ l) = far_from m x l && all_apart m l

far_from_lem : (m x : ℕ) (l : List ℕ) → far_from m x l ≡ true → (k : ℕ) → k < length l → m ≤ distance x (get_or l k 0)
unfolding far_from
far_from_lem m x [] h k n = absurd (omega arith)
far_from_lem m x (y ∷ l) h zero n = leb-true m (distance x y) (and_left (leb m (distance x y)) (far_from m x l) h)
far_from_lem m x (y ∷ l) h (suc k) n = far_from_lem m x l (and_right (leb m (distance x y)) (far_from m x l) h) k (omega arith)

earlier_later : (m : ℕ) (l : List ℕ) → all_apart m l ≡ true → (i j : ℕ) → i < j → j < length l → m ≤ distance (get_or l i 0) (get_or l j 0)
unfolding all_apart
earlier_later m [] h i j n k = absurd (omega arith)
earlier_later m (x ∷ l) h i zero n k = absurd (omega arith)
earlier_later m (x ∷ l) h zero (suc j) n k = far_from_lem m x l (and_left (far_from m x l) (all_apart m l) h) j (omega arith)
earlier_later m (x ∷ l) h (suc i) (suc j) n k = earlier_later m l (and_right (far_from m x l) (all_apart m l) h) i j (omega arith) (omega arith)

-- ---- the distance of two shapes

unlike_turned : (p q : ℕ) (t : Bool) → eqb p q ≡ t → unlike p q ≡ unlike q p
unlike_turned p q true e = let s : p ≡ q = eqb-true p q e in rw s
unlike_turned p q false e = rw (e, ne_eqb q p (λ s. eqb-false p q e (sym s)))

differing_turned : (n a b : ℕ) → differing n a b ≡ differing n b a
unfolding differing
differing_turned zero a b = refl
differing_turned (suc n) a b =
    let e = unlike_turned (from_last a n) (from_last b n) (eqb (from_last a n) (from_last b n)) refl in
    rw (e, differing_turned n a b)

none_differing : (n a : ℕ) → differing n a a ≡ 0
unfolding differing
none_differing zero a = refl
none_differing (suc n) a = rw (eq-eqb (from_last a n) (from_last a n) refl, none_differing n a)

distance_turned : (a b : ℕ) → distance a b ≡ distance b a
distance_turned a b = differing_turned _ a b

pub no_distance : (a : ℕ) → distance a a ≡ 0
no_distance a = none_differing _ a

in_order : (m : ℕ) (l : List ℕ) → all_apart m l ≡ true → (i j : ℕ) → i < length l → j < length l → (i ≡ j → ⊥) → (t : Bool) → ltb i j ≡ t → m ≤ distance (get_or l i 0) (get_or l j 0)
in_order m l h i j a b d true e = earlier_later m l h i j (ltb-true i j e) b
in_order m l h i j a b d false e = rw (distance_turned (get_or l i 0) (get_or l j 0)) (earlier_later m l h j i (omega (arith, ltb-false i j e, d)) a)

-- two places of a list
pub places : (m : ℕ) (l : List ℕ) → all_apart m l ≡ true → (i j : ℕ) → i < length l → j < length l → (i ≡ j → ⊥) → m ≤ distance (get_or l i 0) (get_or l j 0)
places m l h i j a b d = in_order m l h i j a b d (ltb i j) refl
