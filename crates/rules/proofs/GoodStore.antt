-- The store stays good, as long as it was and with the sum of its file sizes kept, by every write of the rules: a byte stored, a record more, a file less, none at all.
-- Assumes nothing.
use mathlib.Core.Path.{◌≡◌, refl, sym, ap, ◌∙◌}
use mathlib.Core.Bool.{Bool, true, false, ◌&&◌, ◌||◌, or-false}
use mathlib.Core.List.{List, [], ◌∷◌, ◌++◌}
use Prim.Native.Nat.{ℕ, ◌+◌, ◌-◌, ◌%◌, ◌≤◌, ◌<◌, min}
use native.Mathlib.Omega.{arith}
use native.Mathlib.Decide.{dec_lt}
use lib.Dec.{eqb, leb, ltb}
use lib.ListN.{length, get_or, drop, replicate, length-set, length-append, length-drop, length-replicate}
use lib.Seq.{length-paste}
use borrow.Author.Tests.{leb-true, leb-false, lt-leb, lt-ltb, le-ltb, ltb-false, eqb-true}
use Rattle.pixels.proofs.Tests.{by_test, or_one, or_two}
use Rattle.directory.specs.declared.Entry.{Entry}
use Rattle.std.specs.Prelude.{Option, Some, None}
use Rattle.directory.specs.declared.Location.{Location}
use Rattle.directory.specs.Directory.{length_of, sort_of, max_number, max_records, entries, bytes_in, sizes_in, has_file, find_of, found_size, valid_of}
use Rattle.files.specs.Files.{unused_of, entry, record_bytes, appended, deleted_at, deleted, purged, stored_byte}
use Rattle.files.specs.Moves.{files_closed, records_closed, closed}
use Rattle.file_laws.specs.Layout.{directory_of, before, after, without, size_of, moved_down, without_file}
use Rattle.file_laws.proofs.Written.{Proper, valid, and_both, directory_long, sizes_append}
use Rattle.file_laws.proofs.Append.{entries_more}
use Rattle.file_laws.proofs.Records.{record_room, record_bytes_lem}
use Rattle.file_laws.proofs.Delete.{split, sizes_cut}
use Rattle.file_laws.proofs.Kept.{all_left, short, entries_less}
use Rattle.file_laws.proofs.Rules.{fair, valid_less, valid_more, valid_none, entries_none}
use Rattle.file_laws.proofs.Meaning.{long_enough, append_means, found, delete_means, freed, purge_means, entries_stored, valid_stored}
use Rattle.queue.specs.Record.{Bytes}
use Rattle.state.specs.Editions.{older, newer, is_edition}
use Rattle.state.proofs.Editions.{at_editions}
use Rattle.rules.specs.Numbers.{too_high}
use Rattle.rules.specs.Files.{in_use, kind_of, lacks_space}
use Rattle.rules.specs.Sound.{store_most, highest}
use Rattle.rules.proofs.Good.{StoreGood}
use Rattle.rules.proofs.GoodLists.{bytes_set, bytes_drop, bytes_zeros, bytes_paste}

-- ---- what the tests of an upload say

abbrev pub is_sort : ℕ → Bool
is_sort k = eqb k 1 || eqb k 2

at_sorts : (P : ℕ → Type 0) → P 1 → P 2 → (k : ℕ) → is_sort k ≡ true → P k
at_sorts P one two k e = either (eqb k 1) refl e
  where
    either : (t : Bool) → eqb k 1 ≡ t → (t || eqb k 2) ≡ true → P k
    either true h f = rw (eqb-true k 1 h) one
    either false h f = rw (eqb-true k 2 f) two

-- a number that is not too high, and that the older edition can name
pub nameable : (e n : ℕ) → is_edition e ≡ true → too_high n ≡ false → (e ≡ older → n < 256) → ltb (highest e) n ≡ false
nameable e n he h f = at_editions (λ (x : ℕ). (x ≡ older → n < 256) → ltb (highest x) n ≡ false) (λ g. le-ltb 255 n (omega (arith, g refl))) (λ _. h) e he f

-- the record that edition e writes for file n of sort k with z bytes
pub record Written (e k n z : ℕ) : Type 0 where
  pub proper : Proper (entry (kind_of e k) n z)
  pub sort : sort_of (kind_of e k) ≡ k
  pub number : n ≤ max_number
  pub small : kind_of e k < 256

module _ (n z : ℕ) (hz : z < 65536) where
  older_written : n ≤ 255 → (k : ℕ) → is_sort k ≡ true → Written older k n z
  unfolding length_of sort_of
  older_written h k e =
      let l : n < 256 = omega arith in
      at_sorts (λ (x : ℕ). Written older x n z)
      (record { proper = record { known = λ q. omega (arith, q); number_fits = l; size_fits = hz }; sort = refl; number = omega arith; small = omega arith })
      (record { proper = record { known = λ q. omega (arith, q); number_fits = l; size_fits = hz }; sort = refl; number = omega arith; small = omega arith }) k e

  newer_written : n ≤ max_number → (k : ℕ) → is_sort k ≡ true → Written newer k n z
  unfolding length_of sort_of
  newer_written h k e =
      let l : n < 65536 = omega arith in
      let m : z < 4294967296 = omega arith in
      at_sorts (λ (x : ℕ). Written newer x n z)
      (record { proper = record { known = λ q. omega (arith, q); number_fits = l; size_fits = m }; sort = refl; number = h; small = omega arith })
      (record { proper = record { known = λ q. omega (arith, q); number_fits = l; size_fits = m }; sort = refl; number = h; small = omega arith }) k e

  pub written : (e k : ℕ) → is_edition e ≡ true → is_sort k ≡ true → ltb (highest e) n ≡ false → Written e k n z
  written e k he hk h =
      at_editions (λ (x : ℕ). ltb (highest x) n ≡ false → Written x k n z) (λ f. older_written (ltb-false 255 n f) k hk) (λ f. newer_written (ltb-false max_number n f) k hk) e he h

-- 24 by the directory's own sums
abbrev pub tight : List ℕ → ℕ → ℕ → Bool
tight s k z = lacks_space (bytes_in (entries s)) (unused_of s (sizes_in (entries s))) k z

-- where 24 is not given, with records up to byte e and f bytes unused
pub record Room (e f k z : ℕ) : Type 0 where
  pub some : eqb z 0 ≡ false
  pub few : e + length_of k ≤ max_records
  pub fits : z ≤ f
  pub small : z < 65536

pub room : (e f k z : ℕ) → lacks_space e f k z ≡ false → Room e f k z
unfolding lacks_space
room e f k z h =
    let few = ltb max_records (e + length_of k) in
    let fits = ltb f z in
    let a = or_one (eqb z 0 || few || fits) (leb 65536 z) h in
    let b = or_one (eqb z 0 || few) fits a in
    record {
      some = or_one (eqb z 0) few b;
      few = ltb-false max_records (e + length_of k) (or_two (eqb z 0) few b);
      fits = ltb-false f z (or_two (eqb z 0 || few) fits a);
      small = leb-false 65536 z (or_two (eqb z 0 || few || fits) (leb 65536 z) h);
    }

-- no store that passes the checks has room for 65,536 bytes, so that this reason adds nothing
pub never_larger : (s : List ℕ) (u z : ℕ) → length s ≤ store_most → (ltb (unused_of s u) z || leb 65536 z) ≡ ltb (unused_of s u) z
never_larger s u z h =
    elim (dec_lt z 65536) [
      | yes l ↦ rw (lt-leb 65536 z l) (or-false (ltb (unused_of s u) z))
      | no l ↦ rw (lt-ltb (unused_of s u) z (omega arith))
    ]

-- where 25 is not given
pub record Fresh (s : List ℕ) (k n : ℕ) : Type 0 where
  pub other : (eqb k 1 && eqb n 1) ≡ false
  pub new : has_file (entries s) k n ≡ false

pub fresh : (s : List ℕ) (k n : ℕ) → in_use s k n ≡ false → Fresh s k n
fresh s k n h = record { other = or_one (eqb k 1 && eqb n 1) (has_file (entries s) k n) h; new = or_two (eqb k 1 && eqb n 1) (has_file (entries s) k n) h }

-- ---- a byte stored

-- where the kept sum says is where the directory says
pub stored_there : {m u : ℕ} {s : List ℕ} → StoreGood m u s → (k c : ℕ) → stored_byte s u k c ≡ stored_byte s (sizes_in (entries s)) k c
stored_there {m} {u} {s} g k c = ap (λ (x : ℕ). stored_byte s x k c) g.sum

pub same_entries : {m u : ℕ} {s : List ℕ} → StoreGood m u s → (k c : ℕ) → entries (stored_byte s u k c) ≡ entries s
same_entries {m} {u} {s} g k c = ap entries (stored_there g k c) ∙ entries_stored s g.bytes g.valid k c

pub stored_good : {m u : ℕ} {s : List ℕ} → StoreGood m u s → (k c : ℕ) → c < 256 → StoreGood m u (stored_byte s u k c)
stored_good {m} {u} {s} g k c h =
    let l = length-set s (256 + u + k) c in
    record {
      bytes = bytes_set s (256 + u + k) c g.bytes h;
      valid = ap valid_of (stored_there g k c) ∙ valid_stored s g.bytes g.valid k c;
      most = omega (arith, l, g.most);
      long = l ∙ g.long;
      sum = g.sum ∙ sym (ap sizes_in (same_entries g k c));
    }

-- ---- a record more

appended_bytes : (s : List ℕ) (e : Entry) → Bytes s → Bytes (record_bytes e) → Bytes (appended s e)
unfolding appended
appended_bytes s e b c =
    by_test Bytes (leb 256 (length s) && leb (bytes_in (entries s) + length_of e.kind) 256) _ _
    (λ _. bytes_paste s (bytes_in (entries s)) (record_bytes e) (length_of e.kind) b c) (λ _. b)

appended_long : (s : List ℕ) (e : Entry) → length (appended s e) ≡ length s
unfolding appended
appended_long s e =
    let n = length_of e.kind in
    by_test (λ (x : List ℕ). length x ≡ length s) (leb 256 (length s) && leb (bytes_in (entries s) + n) 256) _ _
    (λ h. let a = and_both (leb 256 (length s)) (leb (bytes_in (entries s) + n) 256) h in
    let b = leb-true 256 (length s) a.0 in
    let c = leb-true (bytes_in (entries s) + n) 256 a.1 in
    length-paste s (bytes_in (entries s)) (record_bytes e) n (omega arith) (record_room e))
    (λ _. refl)

-- its size is used
sum_more : (s : List ℕ) (e : Entry) → sizes_in (entries s ++ (e ∷ [])) ≡ sizes_in (entries s) + e.size
unfolding sizes_in
sum_more s e = omega (arith, sizes_append (entries s) (e ∷ []))

pub appended_good : {m u : ℕ} {s : List ℕ} → StoreGood m u s → (e k n z : ℕ) → is_edition e ≡ true → is_sort k ≡ true → ltb (highest e) n ≡ false → z < 65536
    → in_use s k n ≡ false → tight s (kind_of e k) z ≡ false → StoreGood m ((u + z) % 65536) (appended s (entry (kind_of e k) n z))
appended_good {m} {u} {s} g e k n z he hk hn hz i v =
    let l = long_enough s g.valid in
    let r = room (bytes_in (entries s)) (unused_of s (sizes_in (entries s))) (kind_of e k) z v in
    let f = fresh s k n i in
    let w = written n z hz e k he hk hn in
    let c = entry (kind_of e k) n z in
    let few : bytes_in (entries s) + length_of (kind_of e k) ≤ 256 = omega (arith, r.few) in
    let means = append_means s c g.bytes g.valid w.proper few in
    let sums : sizes_in (entries (appended s c)) ≡ sizes_in (entries s) + z = ap (λ (x : List ℕ). sizes_in (entries x)) means ∙ ap sizes_in (entries_more s c g.bytes l w.proper few) ∙ sum_more s c in
    record {
      bytes = appended_bytes s c g.bytes (record_bytes_lem c w.small);
      valid = rw means (valid_more s c g.bytes l g.valid w.proper r.few
          (fair c r.some w.number (rw w.sort f.other)) (rw w.sort f.new) r.fits);
      most = omega (arith, appended_long s c, g.most);
      long = appended_long s c ∙ g.long;
      sum = omega (arith, g.sum, sums, r.fits, g.most, (valid s g.valid).room);
    }

-- ---- a file less

closed_bytes : (s : List ℕ) (p n end start next top : ℕ) → Bytes s → Bytes (closed s p n end start next top)
unfolding closed records_closed files_closed
closed_bytes s p n end start next top b =
    let a = bytes_paste s start (drop next s) (top - next) b (bytes_drop next s b) in
    bytes_paste _ (end - n) (replicate n 0) n (bytes_paste _ p _ (end - (p + n)) a (bytes_drop (p + n) _ a)) (bytes_zeros n)

deleted_at_lem : (t : Option Location) (end used : ℕ) (s : List ℕ) → Bytes s → Bytes (deleted_at t end used s)
deleted_at_lem (Some f) end used s b = closed_bytes s f.«record» (length_of (get_or s f.«record» 0)) end f.start (f.start + f.size) (256 + used) b
deleted_at_lem None end used s b = b

deleted_bytes : (s : List ℕ) (k n : ℕ) → Bytes s → Bytes (deleted s k n)
unfolding deleted
deleted_bytes s k n b =
    by_test Bytes (leb (256 + sizes_in (entries s)) (length s)) _ _
    (λ _. deleted_at_lem (find_of s k n) (bytes_in (entries s)) (sizes_in (entries s)) s b) (λ _. b)

pub deleted_good : {m u : ℕ} {s : List ℕ} → StoreGood m u s → (k n : ℕ) → has_file (entries s) k n ≡ true → StoreGood m (u - found_size (find_of s k n)) (deleted s k n)
unfolding without_file
deleted_good {m} {u} {s} g k n has =
    let b = g.bytes in
    let v = g.valid in
    let l = long_enough s v in
    let e = delete_means s b v k n has in
    let es = entries s in
    let area = drop 256 s in
    let x = sizes_in (before es k n) in
    let y = size_of es k n in
    let z = sizes_in (after es k n) in
    let lu : length area ≡ length s - 256 = length-drop 256 s in
    let ld : length (drop (x + y) area) ≡ length area - (x + y) = length-drop (x + y) area in
    let c = sizes_cut s b l v k n has in
    let q = (split es k n has).size in
    let r = (valid s v).room in
    let lm : length (moved_down area x y z) ≡ length area = length-paste area x (drop (x + y) area) z (omega arith) (omega arith) in
    let lw : length (without_file s k n) ≡ length s =
    length-append (directory_of (without es k n)) (moved_down area x y z) ∙ omega (arith, directory_long (without es k n) (all_left s b l v k n has) (short s b l v k n has)) in
    let ls : length (deleted s k n) ≡ length s = ap length e ∙ lw in
    let size : found_size (find_of s k n) ≡ y = ap found_size (found s b v k n has) in
    let sums : sizes_in (entries (deleted s k n)) ≡ sizes_in (without es k n) = ap (λ (t : List ℕ). sizes_in (entries t)) e ∙ ap sizes_in (entries_less s b l v k n has) in
    record {
      bytes = deleted_bytes s k n b;
      valid = rw e (valid_less s b l v k n has);
      most = omega (arith, ls, g.most);
      long = ls ∙ g.long;
      sum = omega (arith, g.sum, size, sums, freed s b v k n has);
    }

-- ---- none at all

purged_bytes : (s : List ℕ) → Bytes s → Bytes (purged s)
unfolding purged
purged_bytes s b = bytes_paste s 0 _ (min 256 (length s)) b (bytes_zeros (min 256 (length s)))

purged_long : (s : List ℕ) → length (purged s) ≡ length s
unfolding purged
purged_long s =
    let r = length-replicate {A = ℕ} (min 256 (length s)) 0 in
    length-paste s 0 (replicate (min 256 (length s)) 0) (min 256 (length s)) (omega arith) (omega (arith, r))

pub purged_good : {m u : ℕ} {s : List ℕ} → StoreGood m u s → StoreGood m 0 (purged s)
unfolding sizes_in
purged_good {m} {u} {s} g =
    let e = purge_means s (long_enough s g.valid) in
    record {
      bytes = purged_bytes s g.bytes;
      valid = rw e (valid_none s);
      most = omega (arith, purged_long s, g.most);
      long = purged_long s ∙ g.long;
      sum = sym (ap (λ (t : List ℕ). sizes_in (entries t)) e ∙ ap sizes_in (entries_none s));
    }
