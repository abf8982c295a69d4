-- The records one after the other: where one stands, the two ways of a walk over them, and induction along them.
-- Assumes nothing.
use mathlib.Core.Path.{◌≡◌, refl, sym, ap, ◌∙◌}
use mathlib.Core.List.{List, [], ◌∷◌}
use mathlib.Core.Bool.{Bool, true, false, cond, and-true, and-false}
use Prim.Native.Nat.{ℕ, zero, suc, ◌+◌, ◌-◌, ◌*◌, ◌≤◌, ◌<◌}
use native.Mathlib.Omega.{arith}
use lib.ListN.{length, get_or, get_or-eq_default}
use lib.Dec.{leb, eqb}
use borrow.Author.Tests.{eq-eqb, ne_eqb, le-leb, lt-leb, leb-true, eqb-true, eqb-false}
use Rattle.directory.specs.declared.Entry.{Entry}
use Rattle.directory.specs.declared.Location.{Location}
use Rattle.directory.specs.Directory.{is_newer, length_of, sort_of, step_at, entry_at, read_from, entries_from, is_file}
use Rattle.directory.proofs.RecordKinds.{length-least}

pub step_in : (s : List ℕ) (p n : ℕ) → n ≡ length_of (get_or s p 0) → p + n ≤ 256 → n ≡ step_at s p
unfolding step_at
step_in s p n e h = rw (← e) (simp (le-leb _ _ h))

pub step_over : (s : List ℕ) (p n : ℕ) → n ≡ length_of (get_or s p 0) → 256 < p + n → 0 ≡ step_at s p
unfolding step_at
step_over s p n e h = rw (← e) (simp (lt-leb _ _ h))

either_zero : (t : Bool) → 0 ≡ cond {A = ℕ} t 0 0
either_zero true = refl
either_zero false = refl

past : (p l : ℕ) → 256 ≤ p → 0 ≡ cond (leb (p + l) 256) l 0
past p zero h = either_zero (leb (p + 0) 256)
past p (suc l) h = simp (lt-leb (p + suc l) 256 (omega arith))

pub step_past : (s : List ℕ) (p : ℕ) → 256 ≤ p → 0 ≡ step_at s p
unfolding step_at
step_past s p h = past p (length_of (get_or s p 0)) h

-- a record that stands at p is whole
pub record Whole (s : List ℕ) (p : ℕ) : Type 0 where
  pub same : step_at s p ≡ length_of (get_or s p 0)
  pub least : 4 ≤ step_at s p
  pub fits : p + step_at s p ≤ 256

step_of : (p l : ℕ) (t : Bool) → leb (p + l) 256 ≡ t → (cond t l 0 ≡ 0 → ⊥) → (cond t l 0 ≡ l) × (p + l ≤ 256)
step_of p l true e h = (refl, leb-true _ _ e)
step_of p l false e h = absurd (h refl)

pub whole : (s : List ℕ) (p : ℕ) → (step_at s p ≡ 0 → ⊥) → Whole s p
unfolding step_at
whole s p h =
    let l = length_of (get_or s p 0) in
    let q = step_of p l (leb (p + l) 256) refl h in
    let n : l ≡ 0 → ⊥ = λ z. h (q.0 ∙ z) in
    record { same = q.0; least = rw q.0 (length-least _ n); fits = rw q.0 q.1 }

pub cond_same : {A : Type 0} (t : Bool) (x y z : A) → (t ≡ false → y ≡ z) → cond t x y ≡ cond t x z
cond_same true x y z h = refl
cond_same false x y z h = h refl

-- how many records may be read makes no difference, if there may be one for each byte
read_fuel : (n m p : ℕ) (s : List ℕ) → 256 ≤ p + n → 256 ≤ p + m → read_from n p s ≡ read_from m p s
unfolding read_from
read_fuel zero zero p s h k = refl
read_fuel zero (suc m) p s h k = simp (eq-eqb (step_at s p) 0 (sym (step_past s p (omega arith))))
read_fuel (suc n) zero p s h k = simp (eq-eqb (step_at s p) 0 (sym (step_past s p (omega arith))))
read_fuel (suc n) (suc m) p s h k =
    cond_same (eqb (step_at s p) 0) _ _ _ (λ f.
    let w = whole s p (eqb-false (step_at s p) 0 f) in
    ap (λ (l : List Entry). entry_at s p ∷ l) (read_fuel n m (p + step_at s p) s (omega (arith, w.least)) (omega (arith, w.least))))

read_none : (n p : ℕ) (s : List ℕ) → step_at s p ≡ 0 → read_from n p s ≡ []
unfolding read_from
read_none zero p s h = refl
read_none (suc n) p s h = simp (eq-eqb _ _ h)

read_more : (n p : ℕ) (s : List ℕ) → (step_at s p ≡ 0 → ⊥) → 256 ≤ p + n → read_from n p s ≡ entry_at s p ∷ entries_from (p + step_at s p) s
unfolding read_from entries_from
read_more zero p s h k = let w = whole s p h in absurd (omega (arith, w.least, w.fits))
read_more (suc n) p s h k =
    let w = whole s p h in
    simp (ne_eqb (step_at s p) 0 h)
    (ap (λ (l : List Entry). entry_at s p ∷ l) (read_fuel n (256 - (p + step_at s p)) (p + step_at s p) s (omega (arith, w.least)) (omega arith)))

-- the two ways that a walk over the records goes
pub from_none : (p : ℕ) (s : List ℕ) → step_at s p ≡ 0 → entries_from p s ≡ []
unfolding entries_from
from_none p s h = read_none (256 - p) p s h

pub from_more : (p : ℕ) (s : List ℕ) → (step_at s p ≡ 0 → ⊥) → entries_from p s ≡ entry_at s p ∷ entries_from (p + step_at s p) s
unfolding entries_from
from_more p s h = read_more (256 - p) p s h (omega arith)

-- what a walk knows where the record's length n is not 0
pub record Stands (s : List ℕ) (p n : ℕ) : Type 0 where
  pub same : n ≡ length_of (get_or s p 0)
  pub least : 4 ≤ n
  pub fits : p + n ≤ 256

pub stands : (s : List ℕ) (p n : ℕ) → n ≡ step_at s p → (n ≡ 0 → ⊥) → Stands s p n
stands s p n e h = let w = whole s p (rw e at h) in record { same = e ∙ w.same; least = rw e w.least; fits = rw e w.fits }

pub none : (s : List ℕ) (p n : ℕ) → n ≡ step_at s p → n ≡ 0 → entries_from p s ≡ []
none s p n e h = from_none p s (sym e ∙ h)

pub more : (s : List ℕ) (p n : ℕ) (d : Entry) → n ≡ step_at s p → (n ≡ 0 → ⊥) → d ≡ entry_at s p → entries_from p s ≡ d ∷ entries_from (p + n) s
more s p n d e h f = rw (e, f) (from_more p s (rw e at h))

pub by_cond : {A : Type 0} (P : A → Type 0) (t : Bool) (x y : A) → (t ≡ true → P x) → (t ≡ false → P y) → P (cond t x y)
by_cond P true x y f g = f refl
by_cond P false x y f g = g refl

pub entry_kind : (s : List ℕ) (p : ℕ) → (entry_at s p).kind ≡ get_or s p 0
unfolding entry_at
entry_kind s p = by_cond (λ (e : Entry). e.kind ≡ get_or s p 0) (is_newer (get_or s p 0)) _ _ (λ _. refl) (λ _. refl)

pub kind_length : (s : List ℕ) (p n : ℕ) (d : Entry) → n ≡ step_at s p → (n ≡ 0 → ⊥) → d ≡ entry_at s p → length_of d.kind ≡ n
kind_length s p n d e h f = rw (f, entry_kind s p) (sym (stands s p n e h).same)

-- induction along the records
read_ind : (s : List ℕ) (P : ℕ → List Entry → Type 0) → ((p : ℕ) → step_at s p ≡ 0 → P p [])
    → ((p : ℕ) (es : List Entry) → (step_at s p ≡ 0 → ⊥) → P (p + step_at s p) es → P p (entry_at s p ∷ es))
    → (n p : ℕ) → 256 ≤ p + n → P p (read_from n p s)
unfolding read_from
read_ind s P f g zero p h = f p (sym (step_past s p (omega arith)))
read_ind s P f g (suc n) p h =
    by_cond (P p) (eqb (step_at s p) 0) _ _ (λ t. f p (eqb-true (step_at s p) 0 t)) (λ t.
    let k = eqb-false (step_at s p) 0 t in
    g p _ k (read_ind s P f g n (p + step_at s p) (omega (arith, (whole s p k).least))))

pub entries_ind : (s : List ℕ) (P : ℕ → List Entry → Type 0) → ((p : ℕ) → step_at s p ≡ 0 → P p [])
    → ((p : ℕ) (es : List Entry) → (step_at s p ≡ 0 → ⊥) → P (p + step_at s p) es → P p (entry_at s p ∷ es))
    → (p : ℕ) → P p (entries_from p s)
unfolding entries_from
entries_ind s P f g p = read_ind s P f g (256 - p) p (omega arith)

-- a byte behind the end reads as 0
pub behind : (s : List ℕ) (p : ℕ) → length s ≤ p → 0 ≡ get_or s p 0
behind s p h = sym (get_or-eq_default s 0 {n = p} h)

-- ---- an entry that is read

-- the entry of seven bytes, of which one of the older edition takes four
abbrev pub entry_of : ℕ → ℕ → ℕ → ℕ → ℕ → ℕ → ℕ → Entry
entry_of a b c d e f g =
    cond (is_newer a) (record { kind = a; number = b + 256 * c; size = d + 256 * e + 65536 * (f + 256 * g) })
    (record { kind = a; number = b; size = c + 256 * d })

pub entry_bytes : (s : List ℕ) (p : ℕ)
    → entry_at s p ≡ entry_of (get_or s p 0) (get_or s (p + 1) 0) (get_or s (p + 2) 0) (get_or s (p + 3) 0) (get_or s (p + 4) 0) (get_or s (p + 5) 0) (get_or s (p + 6) 0)
unfolding entry_at
entry_bytes s p =
    let a : p + 1 + 1 ≡ p + 2 = omega arith in
    let b : p + 2 + 1 ≡ p + 3 = omega arith in
    let c : p + 3 + 1 ≡ p + 4 = omega arith in
    let d : p + 3 + 2 ≡ p + 5 = omega arith in
    let e : p + 5 + 1 ≡ p + 6 = omega arith in
    rw (a, b, c, d, e)

pub older_read : (s : List ℕ) (p n z : ℕ) → is_newer (get_or s p 0) ≡ false → n ≡ get_or s (p + 1) 0 → z ≡ get_or s (p + 2) 0 + 256 * get_or s (p + 3) 0
    → record { kind = get_or s p 0; number = n; size = z } ≡ entry_at s p
older_read s p n z h e f = rw (e, f) (sym (entry_bytes s p ∙ rw h))

pub newer_read : (s : List ℕ) (p n z : ℕ) → is_newer (get_or s p 0) ≡ true → n ≡ get_or s (p + 1) 0 + 256 * get_or s (p + 2) 0
    → z ≡ get_or s (p + 3) 0 + 256 * get_or s (p + 4) 0 + 65536 * (get_or s (p + 5) 0 + 256 * get_or s (p + 6) 0) → record { kind = get_or s p 0; number = n; size = z } ≡ entry_at s p
newer_read s p n z h e f = rw (e, f) (sym (entry_bytes s p ∙ rw h))

-- the same bytes are the same entry
pub copied : (s : List ℕ) (p a b c d e f g : ℕ) → a ≡ get_or s p 0 → b ≡ get_or s (p + 1) 0 → c ≡ get_or s (p + 2) 0 → d ≡ get_or s (p + 3) 0 → e ≡ get_or s (p + 4) 0 → f ≡ get_or s (p + 5) 0
    → g ≡ get_or s (p + 6) 0 → entry_at (a ∷ b ∷ c ∷ d ∷ e ∷ f ∷ g ∷ []) 0 ≡ entry_at s p
copied s p a b c d e f g ha hb hc hd he hf hg = entry_bytes (a ∷ b ∷ c ∷ d ∷ e ∷ f ∷ g ∷ []) 0 ∙ rw (ha, hb, hc, hd, he, hf, hg) (sym (entry_bytes s p))

-- ---- a file that is asked for

-- with its record at p and n bytes at a
abbrev pub located : ℕ → ℕ → ℕ → Location
located p a n = record { «record» = p; start = a; size = n }

pub file_other : (e : Entry) (k n : ℕ) → (e.number ≡ n → ⊥) → false ≡ is_file e k n
file_other e k n h = rw (ne_eqb e.number n h) (sym (and-false (eqb (sort_of e.kind) k)))

pub file_number : (e : Entry) (j k n : ℕ) → j ≡ sort_of e.kind → e.number ≡ n → eqb j k ≡ is_file e k n
file_number e j k n f h = rw (eq-eqb e.number n h, ← f) (sym (and-true (eqb j k)))
