-- The store stays valid, and a new record brings its file and leaves the others.
-- Assumes nothing.
use mathlib.Core.Path.{◌≡◌, refl, sym, subst, ◌∙◌}
use mathlib.Core.List.{List, [], ◌∷◌, ◌++◌}
use mathlib.Core.Bool.{Bool, true, false, cond, ◌&&◌, ◌||◌, not, false≢true}
use Prim.Native.Nat.{ℕ, ◌+◌, ◌-◌, ◌≤◌}
use native.Mathlib.Omega.{arith}
use native.Mathlib.Decide.{ℕ_discrete}
use lib.Dec.{eqb}
use lib.ListN.{length, take, drop, replicate, length-drop, take-append-drop}
use lib.Seq.{paste, length-paste, drop_at, length-take-le}
use borrow.Author.Tests.{ne_eqb, le-leb, not-true}
use Rattle.directory.specs.declared.Entry.{Entry}
use Rattle.directory.specs.Directory.{length_of, sort_of, max_number, max_records, entries, bytes_in, sizes_in, is_file, has_file, is_fair, keep_rules, valid_of}
use Rattle.files.specs.Files.{unused_of}
use Rattle.file_laws.specs.Layout.{directory_of, before, after, size_of, moved_down, with_record, without_file, emptied, records_of, file_in, file_of}
use Rattle.file_laws.proofs.Written.{Bytes, Proper, valid, formed, entries_written, valid_written, directory_long, bytes_append, sizes_append, proper_append, and_both}
use Rattle.file_laws.proofs.Append.{bytes_more, entries_more}
use Rattle.file_laws.proofs.Delete.{split, bytes_cut, sizes_cut}
use Rattle.file_laws.proofs.Kept.{enough, front, all_left}

or_assoc : (a b c : Bool) → (a || (b || c)) ≡ ((a || b) || c)
or_assoc true b c = refl
or_assoc false b c = refl

has_append : (xs ys : List Entry) (k n : ℕ) → has_file (xs ++ ys) k n ≡ (has_file xs k n || has_file ys k n)
unfolding has_file
has_append [] ys k n = refl
has_append (x ∷ xs) ys k n = rw (has_append xs ys k n) (or_assoc (is_file x k n) (has_file xs k n) (has_file ys k n))

without_middle : (a b c : Bool) → not (a || (b || c)) ≡ true → not (a || c) ≡ true
without_middle true b c h = h
without_middle false true c h = absurd (false≢true h)
without_middle false false c h = h

rules_less : (xs ys : List Entry) (e : Entry) → keep_rules (xs ++ (e ∷ ys)) ≡ true → keep_rules (xs ++ ys) ≡ true
unfolding keep_rules has_file
rules_less [] ys e h = (and_both (is_fair e && not (has_file ys (sort_of e.kind) e.number)) (keep_rules ys) h).1
rules_less (x ∷ xs) ys e h =
    let k = sort_of x.kind in
    let n = x.number in
    let q = and_both (is_fair x && not (has_file (xs ++ (e ∷ ys)) k n)) (keep_rules (xs ++ (e ∷ ys))) h in
    let r = and_both (is_fair x) (not (has_file (xs ++ (e ∷ ys)) k n)) q.0 in
    let g : not (has_file xs k n || (is_file e k n || has_file ys k n)) ≡ true = rw (has_append xs (e ∷ ys) k n) at r.1 in
    let m : not (has_file (xs ++ ys) k n) ≡ true = rw (has_append xs ys k n) (without_middle (has_file xs k n) (is_file e k n) (has_file ys k n) g) in
    rw (r.0, m) (rules_less xs ys e q.1)

eqb_sym : (a b : ℕ) → eqb a b ≡ eqb b a
eqb_sym a b = elim (ℕ_discrete a b) [ yes p ↦ rw p | no q ↦ ne_eqb a b q ∙ sym (ne_eqb b a (λ r. q (sym r))) ]

file_sym : (x e : Entry) → is_file e (sort_of x.kind) x.number ≡ is_file x (sort_of e.kind) e.number
file_sym x e = rw (eqb_sym (sort_of e.kind) (sort_of x.kind), eqb_sym e.number x.number)

neither : (a b : Bool) → (a || b) ≡ false → (a ≡ false) × (b ≡ false)
neither true b h = absurd (false≢true (sym h))
neither false b h = (refl, h)

rules_more : (es : List Entry) (e : Entry) → keep_rules es ≡ true → is_fair e ≡ true → has_file es (sort_of e.kind) e.number ≡ false → keep_rules (es ++ (e ∷ [])) ≡ true
unfolding keep_rules has_file
rules_more [] e h f g = rw f
rules_more (x ∷ es) e h f g =
    let k = sort_of x.kind in
    let n = x.number in
    let q = and_both (is_fair x && not (has_file es k n)) (keep_rules es) h in
    let r = and_both (is_fair x) (not (has_file es k n)) q.0 in
    let w = neither (is_file x (sort_of e.kind) e.number) (has_file es (sort_of e.kind) e.number) g in
    let m : has_file (es ++ (e ∷ [])) k n ≡ false = has_append es (e ∷ []) k n ∙ rw (not-true (has_file es k n) r.1, file_sym x e, w.0) in
    rw (r.0, m) (rules_more es e q.1 f w.1)

pub valid_less : (s : List ℕ) → Bytes s → 256 ≤ length s → valid_of s ≡ true → (k n : ℕ) → has_file (entries s) k n ≡ true → valid_of (without_file s k n) ≡ true
unfolding without_file
valid_less s b l v k n has =
    let es = entries s in
    let c = split es k n has in
    let xs = before es k n in
    let ys = after es k n in
    let w = valid s v in
    let u = drop 256 s in
    let lu : length u ≡ length s - 256 = length-drop 256 s in
    let z = sizes_cut s b l v k n has in
    let within : bytes_in (xs ++ ys) ≤ max_records = omega (arith, w.within, bytes_append xs ys, bytes_cut s b l v k n has) in
    let rules : keep_rules (xs ++ ys) ≡ true = rules_less xs ys c.the (subst (λ (x : List Entry). keep_rules x ≡ true) c.parts w.rules) in
    let d : length (drop (sizes_in xs + size_of es k n) u) ≡ length u - (sizes_in xs + size_of es k n) = length-drop (sizes_in xs + size_of es k n) u in
    let m : length (moved_down u (sizes_in xs) (size_of es k n) (sizes_in ys)) ≡ length u = length-paste u (sizes_in xs) (drop (sizes_in xs + size_of es k n) u) (sizes_in ys) (omega (arith, z, w.room, lu)) (omega (arith, z, w.room, lu, d, c.size)) in
    valid_written (xs ++ ys) _ (all_left s b l v k n has) within rules (omega (arith, sizes_append xs ys, z, w.room, lu, m))

pub fair : (e : Entry) → eqb e.size 0 ≡ false → e.number ≤ max_number → is_file e 1 1 ≡ false → is_fair e ≡ true
unfolding is_fair
fair e z n f = rw (z, le-leb e.number max_number n, f)

pub valid_more : (s : List ℕ) (e : Entry) → Bytes s → 256 ≤ length s → valid_of s ≡ true → Proper e → bytes_in (entries s) + length_of e.kind ≤ max_records
    → is_fair e ≡ true → has_file (entries s) (sort_of e.kind) e.number ≡ false → e.size ≤ unused_of s (sizes_in (entries s)) → valid_of (with_record s e) ≡ true
unfolding with_record sizes_in
valid_more s e b l v p r f g z =
    let es = entries s in
    let w = valid s v in
    valid_written (es ++ (e ∷ [])) (drop 256 s) (proper_append es (e ∷ []) (formed s b l 0).proper (p, tt))
    (omega (arith, bytes_more es e))
    (rules_more es e w.rules f g)
    (omega (arith, w.room, sizes_append es (e ∷ []), length-drop 256 s))

area_more : (s : List ℕ) (e : Entry) → Bytes s → 256 ≤ length s → Proper e → bytes_in (entries s) + length_of e.kind ≤ 256 → drop 256 (with_record s e) ≡ drop 256 s
unfolding with_record
area_more s e b l p r =
    drop_at (directory_of (entries s ++ (e ∷ []))) (drop 256 s) 256
    (directory_long (entries s ++ (e ∷ [])) (proper_append (entries s) (e ∷ []) (formed s b l 0).proper (p, tt)) (omega (arith, bytes_more (entries s) e)))

-- the files of the records before it, and the file of the new record
more_in : (es : List Entry) (e : Entry) (u : List ℕ) (k n : ℕ) → sizes_in es ≤ length u
    → file_in (es ++ (e ∷ [])) u k n ≡ cond (has_file es k n) (file_in es u k n) (cond (is_file e k n) (take e.size (drop (sizes_in es) u)) [])
unfolding file_in
more_in es e u k n h =
    let a = sizes_in es in
    let la : length (take a u) ≡ a = length-take-le a u h in
    let x = front es (e ∷ []) (take a u) (drop a u) k n la in
    let y : file_in es (take a u ++ drop a u) k n ≡ file_in es (take a u) k n = enough es (take a u) (drop a u) k n (omega (arith, la)) in
    let x' : file_in (es ++ (e ∷ [])) u k n ≡ cond (has_file es k n) (file_in es (take a u) k n) (cond (is_file e k n) (take e.size (drop a u)) []) = rw (take-append-drop a u) at x in
    let y' : file_in es u k n ≡ file_in es (take a u) k n = rw (take-append-drop a u) at y in
    rw y' x'

pub file_more : (s : List ℕ) (e : Entry) → Bytes s → 256 ≤ length s → valid_of s ≡ true → Proper e → bytes_in (entries s) + length_of e.kind ≤ 256 → (k n : ℕ)
    → file_of (with_record s e) k n ≡ cond (has_file (entries s) k n) (file_of s k n) (cond (is_file e k n) (take e.size (drop (sizes_in (entries s)) (drop 256 s))) [])
file_more s e b l v p r k n =
    rw (entries_more s e b l p r, area_more s e b l p r) (more_in (entries s) e (drop 256 s) k n (omega (arith, (valid s v).room, length-drop 256 s)))

pub emptied_is : (s r : List ℕ) → r ≡ paste s 0 (replicate 256 0) 256 → r ≡ emptied s
unfolding emptied directory_of records_of bytes_in
emptied_is s r h = h

pub entries_none : (s : List ℕ) → entries (emptied s) ≡ []
unfolding emptied bytes_in
entries_none s = entries_written [] (drop 256 s) tt (omega arith)

pub valid_none : (s : List ℕ) → valid_of (emptied s) ≡ true
unfolding emptied bytes_in sizes_in keep_rules
valid_none s = valid_written [] (drop 256 s) tt (omega arith) refl (omega arith)
