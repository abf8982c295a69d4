-- What each write to a store that keeps its rules means.
-- Assumes nothing.
use mathlib.Core.Path.{◌≡◌, refl, sym, ap, ◌∙◌}
use mathlib.Core.List.{List, [], ◌∷◌, ◌++◌}
use mathlib.Core.Bool.{Bool, true, false, ◌||◌, false≢true}
use Prim.Native.Nat.{ℕ, ◌+◌, ◌≤◌, min}
use native.Mathlib.Omega.{arith}
use lib.ListN.{length, get_or, take, drop, set, length-drop, length-set, take-append-drop}
use lib.Seq.{drop_at, length-take-le}
use borrow.Author.Tests.{le-leb}
use Rattle.directory.specs.declared.Entry.{Entry}
use Rattle.std.specs.Prelude.{Option, Some}
use Rattle.directory.specs.declared.Location.{Location}
use Rattle.directory.specs.Directory.{length_of, entry_at, entries, bytes_in, sizes_in, is_file, has_file, find_in, find_of, valid_of}
use Rattle.directory.proofs.Laws.{entry_kind, located}
use Rattle.files.specs.Files.{appended, deletes, deleted, purged, stored_byte}
use Rattle.files.specs.Moves.{files_closed, records_closed, closed}
use Rattle.file_laws.specs.Layout.{directory_of, file_in, file_of, with_record, before, after, without, size_of, without_file, emptied}
use Rattle.file_laws.proofs.Written.{Bytes, Proper, valid, formed, canonical, entries_written, valid_written, directory_long, sizes_append}
use Rattle.file_laws.proofs.Append.{record_more}
use Rattle.file_laws.proofs.Seams.{set_right}
use Rattle.file_laws.proofs.Delete.{split, file_less, the_entry, sizes_cut}
use Rattle.file_laws.proofs.Kept.{enough}
use Rattle.file_laws.proofs.Rules.{emptied_is}

-- a store that keeps its rules has room for its directory
pub long_enough : (s : List ℕ) → valid_of s ≡ true → 256 ≤ length s
long_enough s v = omega (arith, (valid s v).room)

-- ---- append

pub append_means : (s : List ℕ) (e : Entry) → Bytes s → valid_of s ≡ true → Proper e → bytes_in (entries s) + length_of e.kind ≤ 256 → appended s e ≡ with_record s e
unfolding appended
append_means s e b v p h =
    let l = long_enough s v in
    rw (le-leb 256 (length s) l, le-leb (bytes_in (entries s) + length_of e.kind) 256 h) (record_more s e b l v p h)

-- ---- delete

find_cons : (t : Bool) (e : Entry) (es : List Entry) (p a k n : ℕ) → is_file e k n ≡ t
    → (has_file es k n ≡ true → find_in es (p + length_of e.kind) (a + e.size) k n
    ≡ Some (located (p + length_of e.kind + bytes_in (before es k n)) (a + e.size + sizes_in (before es k n)) (size_of es k n)))
    → (t || has_file es k n) ≡ true
    → find_in (e ∷ es) p a k n ≡ Some (located (p + bytes_in (before (e ∷ es) k n)) (a + sizes_in (before (e ∷ es) k n)) (size_of (e ∷ es) k n))
unfolding find_in before size_of bytes_in sizes_in
find_cons true e es p a k n q i h =
    let x : p ≡ p + 0 = omega arith in
    let y : a ≡ a + 0 = omega arith in
    rw q (ap {B = Option Location} (λ (m : ℕ). Some (located m a e.size)) x ∙ ap {B = Option Location} (λ (m : ℕ). Some (located (p + 0) m e.size)) y)
find_cons false e es p a k n q i h =
    let x : p + length_of e.kind + bytes_in (before es k n) ≡ p + (length_of e.kind + bytes_in (before es k n)) = omega arith in
    let y : a + e.size + sizes_in (before es k n) ≡ a + (e.size + sizes_in (before es k n)) = omega arith in
    rw (q, i h, x, y)

-- where the file of this sort and number is found
find_split : (es : List Entry) (p a k n : ℕ) → has_file es k n ≡ true → find_in es p a k n ≡ Some (located (p + bytes_in (before es k n)) (a + sizes_in (before es k n)) (size_of es k n))
unfolding has_file
find_split [] p a k n h = absurd (false≢true h)
find_split (e ∷ es) p a k n h = find_cons (is_file e k n) e es p a k n refl (λ g. find_split es (p + length_of e.kind) (a + e.size) k n g) h

module _ (s : List ℕ) (b : Bytes s) (v : valid_of s ≡ true) (k n : ℕ) (has : has_file (entries s) k n ≡ true) where
  pub found : find_of s k n ≡ Some (located (bytes_in (before (entries s) k n)) (256 + sizes_in (before (entries s) k n)) (size_of (entries s) k n))
  found = find_split (entries s) 0 256 k n has ∙ (let x : 0 + bytes_in (before (entries s) k n) ≡ bytes_in (before (entries s) k n) = omega arith in rw x)

  pub delete_answers : deletes s k n ≡ true
  unfolding deletes
  delete_answers = rw (le-leb (256 + sizes_in (entries s)) (length s) (valid s v).room, found)

  pub delete_means : deleted s k n ≡ without_file s k n
  unfolding deleted files_closed records_closed closed
  delete_means =
      let l = long_enough s v in
      let c = split (entries s) k n has in
      let at = bytes_in (before (entries s) k n) in
      let start = 256 + sizes_in (before (entries s) k n) in
      let used = sizes_in (entries s) in
      let q = the_entry s b l v k n has at refl in
      let z : (entry_at s at).size ≡ size_of (entries s) k n = sym (c.size ∙ ap (λ (e : Entry). e.size) q) in
      let len = length_of (get_or s at 0) in
      let m : len ≡ length_of (entry_at s at).kind = ap length_of (sym (entry_kind s at)) in
      let next = start + (entry_at s at).size in
      let files = files_closed s start next (256 + used) in
      let records = records_closed files at len (bytes_in (entries s)) in
      rw (le-leb (256 + used) (length s) (valid s v).room, found)
      (rw (← z) (file_less s b l v k n has files records (closed s at len (bytes_in (entries s)) start next (256 + used)) at start len (bytes_in (entries s)) used (entry_at s at) refl refl refl m refl refl refl refl refl))

  -- freed room can be used at once
  pub freed : sizes_in (without (entries s) k n) + size_of (entries s) k n ≡ sizes_in (entries s)
  freed = omega (arith, sizes_append (before (entries s) k n) (after (entries s) k n), sizes_cut s b (long_enough s v) v k n has, (split (entries s) k n has).size)

-- ---- purge

pub purge_means : (s : List ℕ) → 256 ≤ length s → purged s ≡ emptied s
unfolding purged
purge_means s h = let m : min 256 (length s) ≡ 256 = omega arith in emptied_is s _ (rw m)

-- ---- a byte into free room

module _ (s : List ℕ) (b : Bytes s) (v : valid_of s ≡ true) (k c : ℕ) where
  area : List ℕ
  area = drop 256 s

  long : length (directory_of (entries s)) ≡ 256
  long = directory_long (entries s) (formed s b (long_enough s v) 0).proper (omega (arith, (formed s b (long_enough s v) 0).fits (omega arith)))

  pub store_means : stored_byte s (sizes_in (entries s)) k c ≡ directory_of (entries s) ++ set (drop 256 s) (sizes_in (entries s) + k) c
  store_means =
      ap (λ (x : List ℕ). set x (256 + sizes_in (entries s) + k) c) (canonical s b (long_enough s v) v)
      ∙ set_right (directory_of (entries s)) (drop 256 s) (sizes_in (entries s) + k) (256 + sizes_in (entries s) + k) c (omega (arith, long))

  pub entries_stored : entries (stored_byte s (sizes_in (entries s)) k c) ≡ entries s
  entries_stored =
      rw store_means (entries_written (entries s) _ (formed s b (long_enough s v) 0).proper (omega (arith, (formed s b (long_enough s v) 0).fits (omega arith))))

  pub valid_stored : valid_of (stored_byte s (sizes_in (entries s)) k c) ≡ true
  valid_stored =
      rw store_means (valid_written (entries s) _ (formed s b (long_enough s v) 0).proper (valid s v).within (valid s v).rules (omega (arith, length-set (drop 256 s) (sizes_in (entries s) + k) c, length-drop 256 s, (valid s v).room)))

  -- it changes no file
  pub file_stored : (k' n' : ℕ) → file_of (stored_byte s (sizes_in (entries s)) k c) k' n' ≡ file_of s k' n'
  file_stored k' n' =
      let u = sizes_in (entries s) in
      let a : List ℕ = drop 256 s in
      let la : length (take u a) ≡ u = length-take-le u a (omega (arith, length-drop 256 s, (valid s v).room)) in
      let d : drop 256 (stored_byte s (sizes_in (entries s)) k c) ≡ set a (u + k) c = rw store_means (drop_at (directory_of (entries s)) _ 256 long) in
      let p : set a (u + k) c ≡ take u a ++ set (drop u a) k c =
      ap (λ (x : List ℕ). set x (u + k) c) (sym (take-append-drop u a)) ∙ set_right (take u a) (drop u a) k (u + k) c (omega (arith, la)) in
      rw (entries_stored, d, p)
      (enough (entries s) (take u a) (set (drop u a) k c) k' n' (omega (arith, la))
      ∙ sym (enough (entries s) (take u a) (drop u a) k' n' (omega (arith, la)))
      ∙ ap (λ (x : List ℕ). file_in (entries s) x k' n') (take-append-drop u a))
