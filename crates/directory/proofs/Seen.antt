-- Files seen: a table with a bit for each sort and number, in place of a look at every later record.
-- Assumes nothing.
use mathlib.Core.Path.{◌≡◌, refl, sym, ◌∙◌}
use mathlib.Core.List.{List, [], ◌∷◌}
use mathlib.Core.Bool.{Bool, true, false, cond, ◌&&◌, ◌||◌, not, or-false, and-false}
use Prim.Native.Nat.{ℕ, zero, suc, ◌+◌, ◌*◌, ◌/◌, ◌%◌, ◌^◌, ◌≤◌, ◌<◌}
use native.Mathlib.Omega.{arith}
use native.Mathlib.Decide.{ℕ_discrete}
use lib.Bits.{bit_or}
use lib.Dec.{eqb}
use lib.ListN.{length, get_or, set, replicate}
use lib.Seq.{get_or-set_same, get_or-set_other}
use borrow.Author.Tests.{eq-eqb, ne_eqb}
use Rattle.pixels.specs.Framebuffer.{bit_of}
use Rattle.pixels.proofs.Bits.{bit_zero, bit_or_lem, bit_one}
use Rattle.directory.specs.declared.Entry.{Entry}
use Rattle.directory.specs.Directory.{length_of, sort_of, step_at, entry_at, entries_from, is_file, has_file}
use Rattle.directory.proofs.Laws.{whole, entry_kind, entries_ind}

-- ---- the table

abbrev pub marked : List ℕ → ℕ → Bool
marked t i = bit_of (get_or t (i / 8) 0) (i % 8)

abbrev pub mark : List ℕ → ℕ → List ℕ
mark t i = set t (i / 8) (bit_or (get_or t (i / 8) 0) (128 / 2 ^ (i % 8)))

-- in one byte, two places are the same where their bits are
same_byte : (i j : ℕ) → i / 8 ≡ j / 8 → eqb (j % 8) (i % 8) ≡ eqb j i
same_byte i j e =
    elim (ℕ_discrete j i) [
      | yes h ↦ rw h (eq-eqb (i % 8) (i % 8) refl ∙ sym (eq-eqb i i refl))
      | no h ↦ ne_eqb (j % 8) (i % 8) (omega arith) ∙ sym (ne_eqb j i h)
    ]

marked_mark : (t : List ℕ) (i j : ℕ) → i / 8 < length t → marked (mark t i) j ≡ (marked t j || eqb j i)
marked_mark t i j l =
    elim (ℕ_discrete (j / 8) (i / 8)) [
      | yes e ↦ rw (e, get_or-set_same t (i / 8) (bit_or (get_or t (i / 8) 0) (128 / 2 ^ (i % 8))) 0 l, bit_or_lem (get_or t (i / 8) 0) (128 / 2 ^ (i % 8)) (j % 8), bit_one (i % 8) (j % 8) (omega arith) (omega arith), same_byte i j (sym e))
      | no e ↦ rw (get_or-set_other t (i / 8) (j / 8) (bit_or (get_or t (i / 8) 0) (128 / 2 ^ (i % 8))) 0 e, ne_eqb j i (omega arith), or-false (marked t j))
    ]

-- ---- a file's place in it

-- bytes that have a bit for each of 1,024 numbers of two sorts
abbrev pub table_size : ℕ
table_size = 256

-- sort k is 1 or 2
abbrev pub slot : ℕ → ℕ → ℕ
slot k n = 2 * n + k % 2

pub record Sort (k : ℕ) : Type 0 where
  pub least : 1 ≤ k
  pub most : k ≤ 2

-- no two files share a bit
slot_same : (k n j m : ℕ) → Sort k → Sort j → eqb (slot k n) (slot j m) ≡ (eqb k j && eqb n m)
slot_same k n j m a b =
    elim (ℕ_discrete k j) [
      | yes e ↦ elim (ℕ_discrete n m) [
        | yes d ↦ rw (e, d) (eq-eqb (slot j m) (slot j m) refl ∙ rw (eq-eqb j j refl, eq-eqb m m refl))
        | no d ↦ ne_eqb (slot k n) (slot j m) (omega arith) ∙ rw (eq-eqb k j e, ne_eqb n m d)
      ]
      | no e ↦ ne_eqb (slot k n) (slot j m) (omega (arith, a.least, a.most, b.least, b.most)) ∙ rw (ne_eqb k j e)
    ]

-- a and b are whether a kind is a font and a bitmap of the older edition, c and d of the newer
sort_of_lem : (a b c d : Bool) → (cond {A = ℕ} (a || b) 4 (cond (c || d) 7 0) ≡ 0 → ⊥) → Sort (cond (a || c) 1 (cond (b || d) 2 0))
sort_of_lem true b c d h = record { least = omega arith; most = omega arith }
sort_of_lem false b true d h = record { least = omega arith; most = omega arith }
sort_of_lem false true false d h = record { least = omega arith; most = omega arith }
sort_of_lem false false false true h = record { least = omega arith; most = omega arith }
sort_of_lem false false false false h = absurd (h refl)

-- where a record has a length its kind has a sort
sorted : (k : ℕ) → (length_of k ≡ 0 → ⊥) → Sort (sort_of k)
unfolding length_of sort_of
sorted k h = sort_of_lem (eqb k 1) (eqb k 2) (eqb k 3) (eqb k 4) h

pub entry_sort : (s : List ℕ) (p : ℕ) → (step_at s p ≡ 0 → ⊥) → Sort (sort_of (entry_at s p).kind)
entry_sort s p h = rw (entry_kind s p) (sorted (get_or s p 0) (λ z. h ((whole s p h).same ∙ z)))

-- ---- entries that are not marked

shared : (m e f h : Bool) → (not (m || e) && (f && not h)) ≡ ((not m && f) && not (e || h))
shared true e f h = refl
shared false true f h = sym (and-false f)
shared false false f h = refl

unfoldable pub fresh : List ℕ → List Entry → Bool
fresh t [] = true
fresh t (e ∷ es) = not (marked t (slot (sort_of e.kind) e.number)) && fresh t es

none_there : (n i : ℕ) → get_or {A = ℕ} (replicate n 0) i 0 ≡ 0
none_there zero i = refl
none_there (suc n) zero = refl
none_there (suc n) (suc i) = none_there n i

unmarked : (n i : ℕ) → marked (replicate n 0) i ≡ false
unmarked n i = rw (none_there n (i / 8)) (bit_zero (i % 8))

pub fresh_all : (n : ℕ) (es : List Entry) → fresh (replicate n 0) es ≡ true
unfolding fresh
fresh_all n [] = refl
fresh_all n (e ∷ es) = rw (unmarked n (slot (sort_of e.kind) e.number)) (fresh_all n es)

pub fresh_mark : (s t : List ℕ) (k n : ℕ) → Sort k → slot k n / 8 < length t → (p : ℕ)
    → fresh (mark t (slot k n)) (entries_from p s) ≡ (fresh t (entries_from p s) && not (has_file (entries_from p s) k n))
unfolding fresh has_file
fresh_mark s t k n a l =
    entries_ind s (λ p es. fresh (mark t (slot k n)) es ≡ (fresh t es && not (has_file es k n))) (λ p h. refl)
    (λ p es h q.
    let e = entry_at s p in
    let i = slot (sort_of e.kind) e.number in
    let c = slot_same (sort_of e.kind) e.number k n (entry_sort s p h) a in
    rw (marked_mark t (slot k n) i l, c, q) (shared (marked t i) (is_file e k n) (fresh t es) (has_file es k n)))
