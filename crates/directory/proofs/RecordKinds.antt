-- Kinds of records: their lengths, and their sorts.
-- Assumes nothing.
use mathlib.Core.Path.{◌≡◌, refl, sym, ◌∙◌}
use mathlib.Core.Logic.{◌⊎◌, inl, inr}
use mathlib.Core.Bool.{Bool, true, false, cond, ◌||◌, false≢true}
use Prim.Native.Nat.{ℕ, ◌+◌, ◌≤◌, ◌<◌}
use native.Mathlib.Omega.{arith}
use native.Mathlib.Decide.{ℕ_discrete, dec_lt}
use lib.Dec.{eqb, lit≤}
use borrow.Author.Tests.{eq-eqb, ne_eqb}
use Rattle.directory.specs.Directory.{is_older, is_newer, length_of, sort_of}

-- k is a or the next number
pair_in : (k a : ℕ) → a ≤ k → k < a + 2 → (eqb k a || eqb k (a + 1)) ≡ true
pair_in k a h i = elim (ℕ_discrete k a) [ yes e ↦ rw (eq-eqb k a e) | no e ↦ rw (ne_eqb k a e) (eq-eqb k (a + 1) (omega arith)) ]

pair_below : (k a : ℕ) → k < a → (eqb k a || eqb k (a + 1)) ≡ false
pair_below k a h = rw (ne_eqb k a (omega arith), ne_eqb k (a + 1) (omega arith))

pair_above : (k a : ℕ) → a + 2 ≤ k → (eqb k a || eqb k (a + 1)) ≡ false
pair_above k a h = rw (ne_eqb k a (omega arith), ne_eqb k (a + 1) (omega arith))

pub length-older : (k : ℕ) → 1 ≤ k → k < 3 → 4 ≡ length_of k
unfolding length_of
length-older k h i = rw (pair_in k 1 h i)

pub length-newer : (k : ℕ) → 3 ≤ k → k < 5 → 7 ≡ length_of k
unfolding length_of
length-newer k h i = rw (pair_above k 1 h, pair_in k 3 h i)

pub length-below : (k : ℕ) → k < 1 → 0 ≡ length_of k
unfolding length_of
length-below k h = rw (pair_below k 1 h, pair_below k 3 (omega arith))

pub length_above : (k : ℕ) → 5 ≤ k → 0 ≡ length_of k
unfolding length_of
length_above k h = rw (pair_above k 1 (omega arith), pair_above k 3 h)

pub sort_font : (k : ℕ) → (k ≡ 1) ⊎ (k ≡ 3) → 1 ≡ sort_of k
unfolding sort_of
sort_font k (inl e) = rw e
sort_font k (inr e) = rw e

pub sort_bitmap : (k : ℕ) → (k ≡ 2) ⊎ (k ≡ 4) → 2 ≡ sort_of k
unfolding sort_of
sort_bitmap k (inl e) = rw e
sort_bitmap k (inr e) = rw e

pub sort_none : (k : ℕ) → ((k ≡ 1) ⊎ (k ≡ 3) → ⊥) → ((k ≡ 2) ⊎ (k ≡ 4) → ⊥) → 0 ≡ sort_of k
unfolding sort_of
sort_none k f b = rw (ne_eqb k 1 (λ e. f (inl e)), ne_eqb k 3 (λ e. f (inr e)), ne_eqb k 2 (λ e. b (inl e)), ne_eqb k 4 (λ e. b (inr e)))

-- no kind is of both editions
older_only : (k : ℕ) → is_older k ≡ true → is_newer k ≡ false
older_only k h = elim (dec_lt k 3) [ yes e ↦ pair_below k 3 e | no e ↦ absurd (false≢true (sym (pair_above k 1 (omega arith)) ∙ h)) ]

-- what the length of a record says of its kind, a and b being whether it is of the older edition and of the newer
abbrev long : Bool → Bool → ℕ
long a b = cond a 4 (cond b 7 0)

least_of : (a b : Bool) → (long a b ≡ 0 → ⊥) → 4 ≤ long a b
least_of true b h = lit≤ tt
least_of false true h = lit≤ tt
least_of false false h = absurd (h refl)

most_of : (a b : Bool) → long a b ≤ 7
most_of true b = lit≤ tt
most_of false true = lit≤ tt
most_of false false = lit≤ tt

other_of : (a b : Bool) → (long a b ≡ 4 → ⊥) → (long a b ≡ 7 → ⊥) → long a b ≡ 0
other_of true b h i = absurd (h refl)
other_of false true h i = absurd (i refl)
other_of false false h i = refl

seven_of : (a b : Bool) → long a b ≡ 7 → b ≡ true
seven_of true b h = absurd (omega arith)
seven_of false true h = refl
seven_of false false h = absurd (omega arith)

four_of : (a b : Bool) → (a ≡ true → b ≡ false) → (long a b ≡ 7 → ⊥) → b ≡ false
four_of true b f h = f refl
four_of false true f h = absurd (h refl)
four_of false false f h = refl

edition_of : (a b : Bool) → (a ≡ true → b ≡ false) → (long a b ≡ 0 → ⊥) → long a b ≡ cond b 7 4
edition_of true b f h = rw (f refl)
edition_of false true f h = refl
edition_of false false f h = absurd (h refl)

room_of : (a b : Bool) → long a b ≤ cond b 7 4
room_of true true = lit≤ tt
room_of true false = lit≤ tt
room_of false true = lit≤ tt
room_of false false = lit≤ tt

-- every record has at least the four bytes of the older edition
pub length-least : (k : ℕ) → (length_of k ≡ 0 → ⊥) → 4 ≤ length_of k
unfolding length_of
length-least k h = least_of (is_older k) (is_newer k) h

pub length_most : (k : ℕ) → length_of k ≤ 7
unfolding length_of
length_most k = most_of (is_older k) (is_newer k)

pub length-other : (k : ℕ) → (length_of k ≡ 4 → ⊥) → (length_of k ≡ 7 → ⊥) → length_of k ≡ 0
unfolding length_of
length-other k h i = other_of (is_older k) (is_newer k) h i

pub length-room : (k : ℕ) → length_of k ≤ cond (is_newer k) 7 4
unfolding length_of
length-room k = room_of (is_older k) (is_newer k)

-- of a kind that is known
pub length-known : (k : ℕ) → (length_of k ≡ 0 → ⊥) → length_of k ≡ cond (is_newer k) 7 4
unfolding length_of
length-known k h = edition_of (is_older k) (is_newer k) (older_only k) h

pub newer_long : (k n : ℕ) → n ≡ length_of k → n ≡ 7 → is_newer k ≡ true
unfolding length_of
newer_long k n e h = seven_of (is_older k) (is_newer k) (sym e ∙ h)

pub older_long : (k n : ℕ) → n ≡ length_of k → (n ≡ 7 → ⊥) → is_newer k ≡ false
unfolding length_of
older_long k n e h = four_of (is_older k) (is_newer k) (older_only k) (λ z. h (e ∙ z))
