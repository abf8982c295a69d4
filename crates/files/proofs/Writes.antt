-- One law for each way through a function that writes files.
-- Assumes nothing.
use mathlib.Core.Path.{◌≡◌, refl, sym, ap, ◌∙◌}
use mathlib.Core.List.{List, ◌∷◌}
use mathlib.Core.Bool.{Bool, true, false, cond}
use Prim.Native.Nat.{ℕ, ◌+◌, ◌%◌, ◌≤◌, ◌<◌, min}
use native.Mathlib.Omega.{arith}
use native.Mathlib.Decide.{dec_lt}
use lib.ListN.{length, get_or, replicate}
use lib.Seq.{paste, paste-zero, set_out}
use borrow.Author.Tests.{le-leb, lt-leb}
use Rattle.directory.specs.declared.Entry.{Entry}
use Rattle.directory.specs.declared.Totals.{Totals}
use Rattle.std.specs.Prelude.{Option, Some, None}
use Rattle.directory.specs.declared.Location.{Location}
use Rattle.directory.specs.Directory.{length_of, step_at, entry_at, entries_from, entries, bytes_in, sizes_in, totals_of, is_file, find_in, find_of}
use Rattle.directory.proofs.RecordKinds.{length-other}
use Rattle.directory.proofs.Laws.{stands, kind_length, entries_ind, located}
use Rattle.files.specs.Files.{entry, byte_of, record_bytes, appended, deletes, deleted, purged, stored_byte}
use Rattle.files.specs.Moves.{closed}

pub end_is : (t : Totals) (es : List Entry) → t ≡ totals_of es → t.end ≡ bytes_in es
end_is t es h = ap (λ (x : Totals). x.end) h

pub used_is : (t : Totals) (es : List Entry) → t ≡ totals_of es → t.used ≡ sizes_in es
used_is t es h = ap (λ (x : Totals). x.used) h

-- ---- where a file that is found lies

-- among the records of s from p on and files from a on
abbrev pub Inside : List ℕ → ℕ → ℕ → List Entry → Option Location → Type 0
Inside s p a es (Some f) = (f.«record» + length_of (get_or s f.«record» 0) ≤ p + bytes_in es) × (a ≤ f.start) × (f.start + f.size ≤ a + sizes_in es)
Inside s p a es None = Unit {0}

inside_more : (s : List ℕ) (p a n : ℕ) (e : Entry) (es : List Entry) (t : Bool) (f : Option Location) → n ≡ length_of (get_or s p 0) → length_of e.kind ≡ n → Inside s (p + n) (a + e.size) es f
    → Inside s p a (e ∷ es) (cond t (Some (located p a e.size)) f)
unfolding bytes_in sizes_in
inside_more s p a n e es true f g i h = (omega arith, omega arith, omega arith)
inside_more s p a n e es false (Some f) g i h = (omega (arith, h.0), omega (arith, h.1), omega (arith, h.2))
inside_more s p a n e es false None g i h = tt

found_inside : (s : List ℕ) (k n p a : ℕ) → Inside s p a (entries_from p s) (find_in (entries_from p s) p a k n)
unfolding find_in
found_inside s k n =
    entries_ind s (λ p es. (a : ℕ) → Inside s p a es (find_in es p a k n)) (λ p h a. tt)
    (λ p es h i a.
    let e = entry_at s p in
    let q = kind_length s p (step_at s p) e refl h refl in
    inside_more s p a (step_at s p) e es (is_file e k n) _ (stands s p (step_at s p) refl h).same q (rw q (i (a + e.size))))

pub record Placed (s : List ℕ) (r b z : ℕ) : Type 0 where
  pub in_directory : r + length_of (get_or s r 0) ≤ bytes_in (entries s)
  pub from : 256 ≤ b
  pub to : b + z ≤ 256 + sizes_in (entries s)

pub placed : (s : List ℕ) (k n r b z : ℕ) (f : Option Location) → f ≡ find_of s k n → f ≡ Some (located r b z) → Placed s r b z
placed s k n r b z f e g =
    let q : find_of s k n ≡ Some (located r b z) = sym e ∙ g in
    let h : Inside s 0 256 (entries s) (Some (located r b z)) = rw q at (found_inside s k n 0 256) in
    record { in_directory = omega (arith, h.0); from = h.1; to = h.2 }

-- ---- delete

module _ (s : List ℕ) (k n : ℕ) (t : Totals) (et : t ≡ totals_of (entries s)) where
  pub delete_short : length s < 256 + t.used → (false ≡ deletes s k n) × (s ≡ deleted s k n)
  unfolding deletes deleted
  delete_short h =
      let u : length s < 256 + sizes_in (entries s) = omega (arith, used_is t _ et) in
      rw (lt-leb (256 + sizes_in (entries s)) (length s) u) (refl, refl)

  pub delete_none : (f : Option Location) → 256 + t.used ≤ length s → f ≡ find_of s k n → f ≡ None → (false ≡ deletes s k n) × (s ≡ deleted s k n)
  unfolding deletes deleted
  delete_none f h e g =
      let u : 256 + sizes_in (entries s) ≤ length s = omega (arith, used_is t _ et) in
      let q : find_of s k n ≡ None = sym e ∙ g in
      rw (le-leb (256 + sizes_in (entries s)) (length s) u, q) (refl, refl)

  -- what the moves ask
  pub delete_asks : (f : Option Location) (r b z m : ℕ) → 256 + t.used ≤ length s → t.end ≤ 256 → f ≡ find_of s k n → f ≡ Some (located r b z) → m ≡ length_of (get_or s r 0)
      → (r + m ≤ t.end) × (t.end ≤ b) × (b ≤ b + z) × (b + z ≤ 256 + t.used) × (256 + t.used ≤ length s)
  delete_asks f r b z m h w e g em =
      let p = placed s k n r b z f e g in
      let x = end_is t _ et in
      let y = used_is t _ et in
      (omega (arith, p.in_directory), omega (arith, p.from), omega arith, omega (arith, p.to), h)

  pub delete_found : (f : Option Location) (r b z m : ℕ) (s' : List ℕ) → 256 + t.used ≤ length s → f ≡ find_of s k n → f ≡ Some (located r b z) → m ≡ length_of (get_or s r 0)
      → s' ≡ closed s r m t.end b (b + z) (256 + t.used) → (true ≡ deletes s k n) × (s' ≡ deleted s k n)
  unfolding deletes deleted
  delete_found f r b z m s' h e g em es =
      let u : 256 + sizes_in (entries s) ≤ length s = omega (arith, used_is t _ et) in
      let q : find_of s k n ≡ Some (located r b z) = sym e ∙ g in
      rw (le-leb (256 + sizes_in (entries s)) (length s) u, q) (refl, es ∙ rw (em, end_is t _ et, used_is t _ et))

-- ---- the others

pub purge_is : (s s' : List ℕ) (n : ℕ) → n ≡ min 256 (length s) → s' ≡ paste s 0 (replicate n 0) n → s' ≡ purged s
unfolding purged
purge_is s s' n e h = h ∙ rw e

pub stored_out : (s : List ℕ) (u k b : ℕ) → length s ≤ 256 + u + k → s ≡ stored_byte s u k b
stored_out s u k b h = sym (set_out s (256 + u + k) b h)

-- ---- append

-- the lowest byte of a number
pub low_byte : (n : ℕ) → n % 256 ≡ byte_of n 0
low_byte n = omega arith

module _ (s : List ℕ) (p m k n z : ℕ) where
  pub all_written : (s' : List ℕ) (j : ℕ) → s' ≡ paste s p (record_bytes (entry k n z)) j → m ≡ j → s' ≡ paste s p (record_bytes (entry k n z)) m
  all_written s' j h e = rw e h

  -- a length that is no record's is 0
  pub none_written : m ≡ length_of k → (m ≡ 7 → ⊥) → (m ≡ 4 → ⊥) → s ≡ paste s p (record_bytes (entry k n z)) m
  none_written e h i = let o : m ≡ 0 = e ∙ length-other k (λ x. i (e ∙ x)) (λ x. h (e ∙ x)) in rw o (paste-zero s p (record_bytes (entry k n z)))

module _ (s : List ℕ) (k n z m : ℕ) (t : Totals) (et : t ≡ totals_of (entries s)) (em : m ≡ length_of k) where
  pub append_in : (s' : List ℕ) → 256 ≤ length s → t.end + m ≤ 256 → s' ≡ paste s t.end (record_bytes (entry k n z)) m → s' ≡ appended s (entry k n z)
  unfolding appended
  append_in s' h l w =
      let u : bytes_in (entries s) + length_of k ≤ 256 = omega (arith, end_is t _ et) in
      w ∙ rw (le-leb 256 (length s) h, le-leb (bytes_in (entries s) + length_of k) 256 u, em, end_is t _ et)

  append_full : 256 ≤ length s → 256 < t.end + m → s ≡ appended s (entry k n z)
  unfolding appended
  append_full h l = rw (le-leb 256 (length s) h, lt-leb (bytes_in (entries s) + length_of k) 256 (omega (arith, end_is t _ et)))

  append_short : length s < 256 → s ≡ appended s (entry k n z)
  unfolding appended
  append_short h = rw (lt-leb 256 (length s) h)

  -- where the record does not fit, or the store is shorter than a directory
  pub append_none : (256 < t.end + m → s ≡ appended s (entry k n z)) × (length s < 256 → s ≡ appended s (entry k n z))
  append_none = (λ l. elim (dec_lt (length s) 256) [ yes h ↦ append_short h | no h ↦ append_full (omega arith) l ], append_short)
