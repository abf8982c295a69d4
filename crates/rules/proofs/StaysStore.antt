-- A stored file stays by every write to a good store but its own delete and a purge.
-- Assumes nothing.
use mathlib.Core.Path.{◌≡◌, refl, ◌∙◌}
use mathlib.Core.Bool.{Bool, true, false, cond, ◌&&◌, ◌||◌, false≢true}
use mathlib.Core.List.{List, [], ◌∷◌, ◌++◌}
use Prim.Native.Nat.{ℕ, ◌+◌, ◌≤◌, ◌<◌}
use native.Mathlib.Omega.{arith}
use lib.Dec.{eqb, ltb}
use borrow.Author.Tests.{eqb-true}
use Rattle.directory.specs.declared.Entry.{Entry}
use Rattle.directory.specs.Directory.{length_of, sort_of, entries, bytes_in, sizes_in, is_file, has_file}
use Rattle.files.specs.Files.{unused_of, entry, appended, deleted, stored_byte}
use Rattle.file_laws.specs.Layout.{before, after, without}
use Rattle.file_laws.proofs.Written.{and_both}
use Rattle.file_laws.proofs.Append.{entries_more}
use Rattle.file_laws.proofs.Kept.{entries_less, file_kept}
use Rattle.file_laws.proofs.Rules.{file_more}
use Rattle.file_laws.proofs.Meaning.{long_enough, append_means, delete_means, entries_stored, file_stored}
use Rattle.state.specs.Editions.{is_edition}
use Rattle.rules.specs.Files.{kind_of}
use Rattle.rules.specs.Sound.{highest}
use Rattle.rules.specs.Stays.{Spared, Stays}
use Rattle.rules.proofs.Good.{StoreGood}
use Rattle.rules.proofs.GoodStore.{is_sort, written, tight, room, stored_there}

pub stays_same : (s : List ℕ) (k n : ℕ) → has_file (entries s) k n ≡ true → Stays s s k n
stays_same s k n h = record { there = h; bytes = refl }

pub stays_then : {s t u : List ℕ} {k n : ℕ} → Stays s t k n → Stays t u k n → Stays s u k n
stays_then a b = record { there = b.there; bytes = b.bytes ∙ a.bytes }

pub stays_spared : {s t : List ℕ} → Spared s t → (k n : ℕ) → has_file (entries s) k n ≡ true → Stays s t k n
stays_spared p k n h = record { there = rw p.records h; bytes = p.files k n }

-- ---- a byte stored

pub spared_stored : {m u : ℕ} {s : List ℕ} → StoreGood m u s → (j c : ℕ) → Spared s (stored_byte s u j c)
spared_stored {m} {u} {s} g j c =
    rw (stored_there g j c) (record { records = entries_stored s g.bytes g.valid j c; files = file_stored s g.bytes g.valid j c })

-- ---- a record more

or_then : (t a b : Bool) → (a ≡ true → b ≡ true) → (t || a) ≡ true → (t || b) ≡ true
or_then true a b f h = refl
or_then false a b f h = f h

has_left : (es fs : List Entry) (k n : ℕ) → has_file es k n ≡ true → has_file (es ++ fs) k n ≡ true
unfolding has_file
has_left [] fs k n h = absurd (false≢true h)
has_left (e ∷ es) fs k n h = or_then (is_file e k n) (has_file es k n) (has_file (es ++ fs) k n) (λ g. has_left es fs k n g) h

pub stays_appended : {m u : ℕ} {s : List ℕ} → StoreGood m u s → (e k n z : ℕ) → is_edition e ≡ true → is_sort k ≡ true → ltb (highest e) n ≡ false → z < 65536
    → tight s (kind_of e k) z ≡ false → (k' n' : ℕ) → has_file (entries s) k' n' ≡ true → Stays s (appended s (entry (kind_of e k) n z)) k' n'
stays_appended {m} {u} {s} g e k n z he hk hn hz v k' n' h =
    let l = long_enough s g.valid in
    let p = (written n z hz e k he hk hn).proper in
    let c = entry (kind_of e k) n z in
    let one : bytes_in (entries s) + length_of (kind_of e k) ≤ 256 = omega (arith, (room (bytes_in (entries s)) (unused_of s (sizes_in (entries s))) (kind_of e k) z v).few) in
    rw (append_means s c g.bytes g.valid p one)
    (record {
      there = rw (entries_more s c g.bytes l p one) (has_left (entries s) (c ∷ []) k' n' h);
      bytes = file_more s c g.bytes l g.valid p one k' n' ∙ rw h;
    })

-- ---- another file less

another : (e : Entry) (k n k' n' : ℕ) → is_file e k n ≡ true → (eqb k k' && eqb n n') ≡ false → is_file e k' n' ≡ false
another e k n k' n' h f =
    let q = and_both (eqb (sort_of e.kind) k) (eqb e.number n) h in
    rw (eqb-true (sort_of e.kind) k q.0, eqb-true e.number n q.1) f

less_cons : (e : Entry) (es : List Entry) (k n k' n' : ℕ) (t : Bool) → is_file e k n ≡ t → (eqb k k' && eqb n n') ≡ false
    → (has_file es k' n' ≡ true → has_file (without es k n) k' n' ≡ true) → (is_file e k' n' || has_file es k' n') ≡ true
    → has_file (cond t [] (e ∷ before es k n) ++ cond t es (after es k n)) k' n' ≡ true
unfolding has_file
less_cons e es k n k' n' true q f i h = let z : (false || has_file es k' n') ≡ true = rw (another e k n k' n' q f) at h in z
less_cons e es k n k' n' false q f i h = or_then (is_file e k' n') (has_file es k' n') (has_file (without es k n) k' n') i h

has_less : (es : List Entry) (k n k' n' : ℕ) → (eqb k k' && eqb n n') ≡ false → has_file es k' n' ≡ true → has_file (without es k n) k' n' ≡ true
unfolding has_file before after
has_less [] k n k' n' f h = h
has_less (e ∷ es) k n k' n' f h = less_cons e es k n k' n' (is_file e k n) refl f (λ g. has_less es k n k' n' f g) h

pub stays_deleted : {m u : ℕ} {s : List ℕ} → StoreGood m u s → (k n : ℕ) → has_file (entries s) k n ≡ true
    → (k' n' : ℕ) → (eqb k k' && eqb n n') ≡ false → has_file (entries s) k' n' ≡ true → Stays s (deleted s k n) k' n'
stays_deleted {m} {u} {s} g k n has k' n' f h =
    let l = long_enough s g.valid in
    rw (delete_means s g.bytes g.valid k n has)
    (record {
      there = rw (entries_less s g.bytes l g.valid k n has) (has_less (entries s) k n k' n' f h);
      bytes = file_kept s g.bytes l g.valid k n has k' n' f;
    })
