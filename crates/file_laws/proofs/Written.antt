-- A directory that is written out is read back, and one that is valid is written out from what is read of it.
-- Assumes nothing.
use mathlib.Core.Path.{◌≡◌, refl, sym, ap, ◌∙◌}
use mathlib.Core.List.{List, [], ◌∷◌, ◌++◌, append_assoc}
use mathlib.Core.Bool.{Bool, true, false, ◌&&◌, false≢true}
use Prim.Native.Nat.{ℕ, zero, suc, ◌+◌, ◌-◌, ◌≤◌, ◌<◌}
use native.Mathlib.Omega.{arith}
use native.Mathlib.Decide.{dec_lt}
use lib.ListN.{length, get_or, drop, replicate, length-append, length-replicate, get_or-replicate, get_or-append}
use lib.Seq.{get_or-append-add}
use lib.Dec.{eqb}
use borrow.Author.Tests.{eqb-true, eq-eqb, le-leb, leb-true}
use Rattle.directory.specs.declared.Entry.{Entry}
use Rattle.directory.specs.Directory.{length_of, max_records, step_at, entry_at, entries_from, entries, bytes_in, sizes_in, keep_rules, zeros, zeros_from, valid_of}
use Rattle.directory.proofs.Laws.{whole, step_in, step_past, none, more, entry_kind, entries_ind}
use Rattle.files.specs.Files.{record_bytes}
use Rattle.file_laws.specs.Layout.{records_of, directory_of}
pub use Rattle.file_laws.proofs.Records.{Bytes, Proper}
use Rattle.file_laws.proofs.Records.{record_long, seam, kind_seam, entry_seam, drop_next, drop_record, entry_proper}

abbrev pub AllProper : List Entry → Type 0
AllProper [] = Unit {0}
AllProper (e ∷ es) = Proper e × AllProper es

pub records_long : (es : List Entry) → AllProper es → length (records_of es) ≡ bytes_in es
unfolding records_of bytes_in
records_long [] a = refl
records_long (e ∷ es) a = length-append (record_bytes e) (records_of es) ∙ rw (record_long e a.0, records_long es a.1)

pub records_append : (xs ys : List Entry) → records_of (xs ++ ys) ≡ records_of xs ++ records_of ys
unfolding records_of
records_append [] ys = refl
records_append (x ∷ xs) ys = rw (records_append xs ys, append_assoc)

pub bytes_append : (xs ys : List Entry) → bytes_in (xs ++ ys) ≡ bytes_in xs + bytes_in ys
unfolding bytes_in
bytes_append [] ys = omega arith
bytes_append (x ∷ xs) ys = omega (arith, bytes_append xs ys)

pub sizes_append : (xs ys : List Entry) → sizes_in (xs ++ ys) ≡ sizes_in xs + sizes_in ys
unfolding sizes_in
sizes_append [] ys = omega arith
sizes_append (x ∷ xs) ys = omega (arith, sizes_append xs ys)

pub proper_append : (xs ys : List Entry) → AllProper xs → AllProper ys → AllProper (xs ++ ys)
proper_append [] ys a b = b
proper_append (x ∷ xs) ys a b = (a.0, proper_append xs ys a.1 b)

length-zero : 0 ≡ length_of 0
unfolding length_of
length-zero = refl

ends_at : (xs t : List ℕ) → (length xs < 256 → get_or t 0 0 ≡ 0) → step_at (xs ++ t) (length xs) ≡ 0
ends_at xs t z =
    elim (dec_lt (length xs) 256) [
      | yes h ↦ sym (step_in (xs ++ t) (length xs) 0 (rw (seam xs t, z h) length-zero) (omega arith))
      | no h ↦ sym (step_past (xs ++ t) (length xs) (omega arith))
    ]

-- what is written is read
pub read_back : (xs : List ℕ) (es : List Entry) (t : List ℕ) → AllProper es → length xs + bytes_in es ≤ 256 → (length xs + bytes_in es < 256 → get_or t 0 0 ≡ 0)
    → entries_from (length xs) (xs ++ (records_of es ++ t)) ≡ es
unfolding records_of bytes_in
read_back xs [] t a h z = none (xs ++ t) (length xs) 0 (sym (ends_at xs t (λ k. z (omega arith)))) refl
read_back xs (e ∷ es) t a h z =
    let r = record_bytes e in
    let u = records_of es ++ t in
    let n = length_of e.kind in
    let s = xs ++ (r ++ u) in
    let st : n ≡ step_at s (length xs) = step_in s (length xs) n (ap length_of (sym (kind_seam xs e u a.0))) (omega arith) in
    let m : entries_from (length xs) s ≡ e ∷ entries_from (length xs + n) s = more s (length xs) n e st a.0.known (entry_seam xs e u a.0) in
    let l : length (xs ++ r) ≡ length xs + n = length-append xs r ∙ ap (λ (k : ℕ). length xs + k) (record_long e a.0) in
    let i = read_back (xs ++ r) es t a.1 (omega (arith, l)) (λ k. z (omega (arith, l))) in
    let i' : entries_from (length xs + n) s ≡ es = rw (← l, ← append_assoc xs r u) i in
    rw append_assoc (m ∙ ap (λ (x : List Entry). e ∷ x) i')

-- Now from the bytes to the records.

-- the records es are read from byte p on
pub record Form (s : List ℕ) (p : ℕ) (es : List Entry) : Type 0 where
  pub written : drop p s ≡ records_of es ++ drop (p + bytes_in es) s
  pub proper : AllProper es
  pub fits : p ≤ 256 → p + bytes_in es ≤ 256

form_none : (s : List ℕ) (p : ℕ) → Form s p []
unfolding records_of bytes_in
form_none s p = let e : p ≡ p + 0 = omega arith in record { written = ap (λ (n : ℕ). drop n s) e; proper = tt; fits = λ h. omega arith }

form_more : (s : List ℕ) (p : ℕ) (es : List Entry) → Bytes s → 256 ≤ length s → (step_at s p ≡ 0 → ⊥) → Form s (p + step_at s p) es → Form s p (entry_at s p ∷ es)
unfolding records_of bytes_in
form_more s p es b l h f =
    let w = whole s p h in
    let d = drop_record s p (step_at s p) b w.same w.least (omega (arith, w.fits)) in
    let q : length_of (entry_at s p).kind ≡ step_at s p = rw (entry_kind s p) (sym w.same) in
    let e : p + step_at s p + bytes_in es ≡ p + (length_of (entry_at s p).kind + bytes_in es) = omega arith in
    record {
      written = d ∙ (ap (λ (x : List ℕ). record_bytes (entry_at s p) ++ x) (f.written ∙ ap (λ (n : ℕ). records_of es ++ drop n s) e) ∙ sym (append_assoc (record_bytes (entry_at s p)) (records_of es) _));
      proper = (entry_proper s p b (λ z. h (w.same ∙ z)), f.proper);
      fits = λ k. omega (arith, f.fits w.fits);
    }

pub formed : (s : List ℕ) → Bytes s → 256 ≤ length s → (p : ℕ) → Form s p (entries_from p s)
formed s b l p = entries_ind s (Form s) (λ p h. form_none s p) (λ p es h f. form_more s p es b l h f) p

pub and_both : (a b : Bool) → (a && b) ≡ true → (a ≡ true) × (b ≡ true)
and_both true b h = (refl, h)
and_both false b h = absurd (false≢true h)

zeros_form : (n p : ℕ) (s : List ℕ) → zeros n p s ≡ true → p + n ≤ length s → drop p s ≡ replicate n 0 ++ drop (p + n) s
unfolding zeros
zeros_form zero p s h l = let e : p ≡ p + 0 = omega arith in ap (λ (n : ℕ). drop n s) e
zeros_form (suc n) p s h l =
    let q = and_both (eqb (get_or s p 0) 0) (zeros n (p + 1) s) h in
    let e : p + 1 + n ≡ p + suc n = omega arith in
    drop_next s p (p + 1) refl (omega arith) ∙ rw (eqb-true (get_or s p 0) 0 q.0) (ap (λ (x : List ℕ). 0 ∷ x) (zeros_form n (p + 1) s q.1 (omega arith) ∙ ap (λ (k : ℕ). replicate n 0 ++ drop k s) e))

zeros_are : (n p : ℕ) (s : List ℕ) → ((i : ℕ) → i < n → get_or s (p + i) 0 ≡ 0) → zeros n p s ≡ true
unfolding zeros
zeros_are zero p s h = refl
zeros_are (suc n) p s h =
    let a : p + 0 ≡ p = omega arith in
    let z : get_or s p 0 ≡ 0 = rw a at (h 0 (omega arith)) in
    rw (eq-eqb (get_or s p 0) 0 z) (zeros_are n (p + 1) s (λ i k. let e : p + suc i ≡ p + 1 + i = omega arith in rw e at (h (suc i) (omega arith))))

pub record Valid (s : List ℕ) : Type 0 where
  pub ends : zeros_from (bytes_in (entries s)) s ≡ true
  pub within : bytes_in (entries s) ≤ max_records
  pub rules : keep_rules (entries s) ≡ true
  pub room : 256 + sizes_in (entries s) ≤ length s

pub valid : (s : List ℕ) → valid_of s ≡ true → Valid s
unfolding valid_of
valid s h =
    let es = entries s in
    let a = and_both _ _ h in
    let b = and_both _ _ a.0 in
    let c = and_both _ _ b.0 in
    record { ends = c.0; within = leb-true (bytes_in es) max_records c.1; rules = b.1; room = leb-true (256 + sizes_in es) (length s) a.1 }

-- a valid store is what its records say, and the file area
pub canonical : (s : List ℕ) → Bytes s → 256 ≤ length s → valid_of s ≡ true → s ≡ directory_of (entries s) ++ drop 256 s
unfolding directory_of zeros_from
canonical s b l v =
    let es = entries s in
    let f = formed s b l 0 in
    let m : bytes_in es ≤ 256 = omega (arith, f.fits (omega arith)) in
    let z = zeros_form (256 - bytes_in es) (bytes_in es) s (valid s v).ends (omega arith) in
    let e : bytes_in es + (256 - bytes_in es) ≡ 256 = omega arith in
    let e' : 0 + bytes_in es ≡ bytes_in es = omega arith in
    f.written ∙ rw (e', z, e, append_assoc)

tail_zero : (b : ℕ) (area : List ℕ) → b < 256 → get_or (replicate (256 - b) 0 ++ area) 0 0 ≡ 0
tail_zero b area h = let e : 256 - b ≡ suc (255 - b) = omega arith in rw e

pub entries_written : (es : List Entry) (area : List ℕ) → AllProper es → bytes_in es ≤ 256 → entries (directory_of es ++ area) ≡ es
unfolding directory_of
entries_written es area a h =
    rw append_assoc (read_back [] es (replicate (256 - bytes_in es) 0 ++ area) a (omega arith) (λ k. tail_zero (bytes_in es) area (omega arith)))

pub directory_long : (es : List Entry) → AllProper es → bytes_in es ≤ 256 → length (directory_of es) ≡ 256
unfolding directory_of
directory_long es a h = omega (arith, length-append (records_of es) (replicate (256 - bytes_in es) 0), records_long es a, length-replicate {A = ℕ} (256 - bytes_in es) 0)

zeros_written : (es : List Entry) (area : List ℕ) → AllProper es → zeros_from (bytes_in es) (directory_of es ++ area) ≡ true
unfolding directory_of zeros_from
zeros_written es area a =
    zeros_are (256 - bytes_in es) (bytes_in es) _ (λ i h.
    rw (append_assoc, ← records_long es a, get_or-append-add (records_of es), get_or-append (replicate (256 - length (records_of es)) 0) area 0 i (rw (length-replicate {A = ℕ} (256 - length (records_of es)) 0, records_long es a) h)) (get_or-replicate (256 - length (records_of es)) i 0 0 (rw (records_long es a) h)))

pub valid_written : (es : List Entry) (area : List ℕ) → AllProper es → bytes_in es ≤ max_records → keep_rules es ≡ true → sizes_in es ≤ length area → valid_of (directory_of es ++ area) ≡ true
unfolding valid_of
valid_written es area a h r z =
    let k : bytes_in es ≤ 256 = omega arith in
    let l : 256 + sizes_in es ≤ length (directory_of es ++ area) = omega (arith, length-append (directory_of es) area, directory_long es a k) in
    rw (entries_written es area a k, zeros_written es area a, le-leb (bytes_in es) max_records h, r, le-leb (256 + sizes_in es) (length (directory_of es ++ area)) l)
