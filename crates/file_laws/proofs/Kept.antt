-- What a new record and a delete keep: the other records, their files' bytes, and the rules.
-- Assumes nothing.
use mathlib.Core.Path.{◌≡◌, refl, sym, ap, subst, ◌∙◌}
use mathlib.Core.List.{List, [], ◌∷◌, ◌++◌, append_assoc}
use mathlib.Core.Bool.{Bool, true, false, cond, ◌&&◌, ◌||◌}
use Prim.Native.Nat.{ℕ, ◌+◌, ◌≤◌}
use native.Mathlib.Omega.{arith}
use lib.Dec.{eqb}
use lib.ListN.{length, take, drop, length-drop, take-append-drop}
use lib.Seq.{drop_at, take-append-le, drop-append-le, length-take-le, drop-drop}
use borrow.Author.Tests.{eqb-true}
use Rattle.directory.specs.declared.Entry.{Entry}
use Rattle.std.specs.Prelude.{Some}
use Rattle.directory.proofs.Laws.{located}
use Rattle.directory.specs.Directory.{length_of, sort_of, entries, bytes_in, sizes_in, is_file, has_file, find_in, find_of, valid_of}
use Rattle.file_laws.specs.Layout.{directory_of, before, after, without, size_of, moved_down, without_file, file_in, file_of, found_bytes}
use Rattle.file_laws.proofs.Written.{Bytes, AllProper, valid, formed, entries_written, directory_long, bytes_append, proper_append, and_both}
use Rattle.file_laws.proofs.Delete.{split, proper_left, proper_right, bytes_cut, sizes_cut}

-- Where a file was found its bytes are.

found_cons : (e : Entry) (es : List Entry) (p a k n : ℕ) (s : List ℕ) (t : Bool)
    → found_bytes (find_in es (p + length_of e.kind) (a + e.size) k n) s ≡ file_in es (drop (a + e.size) s) k n
    → found_bytes (cond t (Some (located p a e.size)) (find_in es (p + length_of e.kind) (a + e.size) k n)) s ≡ cond t (take e.size (drop a s)) (file_in es (drop e.size (drop a s)) k n)
found_cons e es p a k n s true h = refl
found_cons e es p a k n s false h = rw (drop-drop e.size a s) h

found_in : (es : List Entry) (p a k n : ℕ) (s : List ℕ) → found_bytes (find_in es p a k n) s ≡ file_in es (drop a s) k n
unfolding find_in file_in
found_in [] p a k n s = refl
found_in (e ∷ es) p a k n s = found_cons e es p a k n s (is_file e k n) (found_in es (p + length_of e.kind) (a + e.size) k n s)

pub found_is : (s : List ℕ) (k n : ℕ) → found_bytes (find_of s k n) s ≡ file_of s k n
found_is s k n = found_in (entries s) 0 256 k n s

-- The files of a row of records.

enough_cons : (e : Entry) (es : List Entry) (a u : List ℕ) (k n : ℕ) (t : Bool) → e.size ≤ length a → file_in es (drop e.size a ++ u) k n ≡ file_in es (drop e.size a) k n
    → cond t (take e.size (a ++ u)) (file_in es (drop e.size (a ++ u)) k n) ≡ cond t (take e.size a) (file_in es (drop e.size a) k n)
enough_cons e es a u k n true h i = take-append-le e.size a u h
enough_cons e es a u k n false h i = rw (drop-append-le e.size a u h) i

-- what lies behind the files does not matter
pub enough : (es : List Entry) (a u : List ℕ) (k n : ℕ) → sizes_in es ≤ length a → file_in es (a ++ u) k n ≡ file_in es a k n
unfolding file_in sizes_in
enough [] a u k n h = refl
enough (e ∷ es) a u k n h = enough_cons e es a u k n (is_file e k n) (omega arith) (enough es (drop e.size a) u k n (simp length-drop (omega arith)))

front_cons : (e : Entry) (xs ys : List Entry) (a u : List ℕ) (k n : ℕ) (t : Bool) → e.size ≤ length a
    → file_in (xs ++ ys) (drop e.size a ++ u) k n ≡ cond (has_file xs k n) (file_in xs (drop e.size a) k n) (file_in ys u k n)
    → cond t (take e.size (a ++ u)) (file_in (xs ++ ys) (drop e.size (a ++ u)) k n)
    ≡ cond (t || has_file xs k n) (cond t (take e.size a) (file_in xs (drop e.size a) k n)) (file_in ys u k n)
front_cons e xs ys a u k n true h i = take-append-le e.size a u h
front_cons e xs ys a u k n false h i = rw (drop-append-le e.size a u h) i

front_none : (a : List ℕ) → length a ≡ 0 → a ≡ []
front_none [] h = refl
front_none (x ∷ a) h = absurd (omega arith)

pub front : (xs ys : List Entry) (a u : List ℕ) (k n : ℕ) → length a ≡ sizes_in xs → file_in (xs ++ ys) (a ++ u) k n ≡ cond (has_file xs k n) (file_in xs a k n) (file_in ys u k n)
unfolding file_in sizes_in has_file
front [] ys a u k n h = rw (front_none a h)
front (x ∷ xs) ys a u k n h = front_cons x xs ys a u k n (is_file x k n) (omega arith) (front xs ys (drop x.size a) u k n (simp length-drop (omega arith)))

-- the file that is taken out is another
other : (e : Entry) (k n k' n' : ℕ) → is_file e k n ≡ true → (eqb k k' && eqb n n') ≡ false → is_file e k' n' ≡ false
other e k n k' n' h f =
    let q = and_both (eqb (sort_of e.kind) k) (eqb e.number n) h in
    rw (eqb-true (sort_of e.kind) k q.0, eqb-true e.number n q.1) f

kept_in : (xs ys : List Entry) (e : Entry) (u : List ℕ) (k n : ℕ) → is_file e k n ≡ false → sizes_in xs + (e.size + sizes_in ys) ≤ length u
    → file_in (xs ++ ys) (moved_down u (sizes_in xs) e.size (sizes_in ys)) k n ≡ file_in (xs ++ (e ∷ ys)) u k n
unfolding file_in
kept_in xs ys e u k n h l =
    let a = sizes_in xs in
    let z = e.size in
    let m = sizes_in ys in
    let la : length (take a u) ≡ a = length-take-le a u (omega arith) in
    let lm : length (take m (drop (a + z) u)) ≡ m = length-take-le m (drop (a + z) u) (simp length-drop (omega arith)) in
    let c = take m (drop (a + z) u) in
    let x : file_in (xs ++ ys) (moved_down u a z m) k n ≡ cond (has_file xs k n) (file_in xs (take a u) k n) (file_in ys c k n) =
    rw append_assoc (front xs ys (take a u) (c ++ drop (a + m) u) k n la ∙ ap (λ (w : List ℕ). cond (has_file xs k n) (file_in xs (take a u) k n) w) (enough ys c (drop (a + m) u) k n (omega (arith, lm)))) in
    let y : file_in ys (drop (a + z) u) k n ≡ file_in ys c k n =
    ap (λ (w : List ℕ). file_in ys w k n) (sym (take-append-drop m (drop (a + z) u))) ∙ enough ys c (drop m (drop (a + z) u)) k n (omega (arith, lm)) in
    let w : file_in (xs ++ (e ∷ ys)) (take a u ++ drop a u) k n ≡ cond (has_file xs k n) (file_in xs (take a u) k n) (file_in ys c k n) =
    front xs (e ∷ ys) (take a u) (drop a u) k n la ∙ rw (h, drop-drop z a u, y) in
    x ∙ sym (rw (take-append-drop a u) at w)

module _ (s : List ℕ) (b : Bytes s) (l : 256 ≤ length s) (v : valid_of s ≡ true) (k n : ℕ) (has : has_file (entries s) k n ≡ true) where
  abbrev es : List Entry
  es = entries s

  abbrev xs : List Entry
  xs = before es k n

  abbrev ys : List Entry
  ys = after es k n

  abbrev the : Entry
  the = (split es k n has).the

  pub all_left : AllProper (xs ++ ys)
  all_left = let p = subst AllProper (split es k n has).parts (formed s b l 0).proper in proper_append xs ys (proper_left xs (the ∷ ys) p) (proper_right xs (the ∷ ys) p).1

  pub short : bytes_in (xs ++ ys) ≤ 256
  short = omega (arith, bytes_append xs ys, bytes_cut s b l v k n has, (formed s b l 0).fits (omega arith))

  -- the other records are what they were, in their order
  pub entries_less : entries (without_file s k n) ≡ without es k n
  unfolding without_file
  entries_less = entries_written (without es k n) _ all_left short

  pub area_less : drop 256 (without_file s k n) ≡ moved_down (drop 256 s) (sizes_in xs) (size_of es k n) (sizes_in ys)
  unfolding without_file
  area_less = drop_at (directory_of (without es k n)) _ 256 (directory_long (without es k n) all_left short)

  -- and every other file has the bytes that it had
  pub file_kept : (k' n' : ℕ) → (eqb k k' && eqb n n') ≡ false → file_of (without_file s k n) k' n' ≡ file_of s k' n'
  file_kept k' n' h =
      let c = split es k n has in
      let r = (valid s v).room in
      let f : is_file the k' n' ≡ false = other the k n k' n' c.is h in
      let m : sizes_in xs + (the.size + sizes_in ys) ≤ length (drop 256 s) = simp length-drop (omega (arith, sizes_cut s b l v k n has)) in
      rw (entries_less, area_less, c.size) (kept_in xs ys the (drop 256 s) k' n' f m ∙ ap (λ (w : List Entry). file_in w (drop 256 s) k' n') (sym c.parts))
