-- A record and its file taken out.
-- Assumes nothing.
use mathlib.Core.Path.{◌≡◌, refl, sym, ap, subst, ◌∙◌}
use mathlib.Core.List.{List, [], ◌∷◌, ◌++◌, append_assoc}
use mathlib.Core.Bool.{Bool, true, false, ◌||◌, false≢true}
use Prim.Native.Nat.{ℕ, ◌+◌, ◌-◌, ◌≤◌}
use native.Mathlib.Omega.{arith}
use lib.ListN.{length, drop, replicate, length-append, length-replicate, replicate-append-replicate}
use lib.Seq.{paste, drop_at, drop-append-add, drop-drop}
use Rattle.directory.specs.declared.Entry.{Entry}
use Rattle.directory.specs.Directory.{length_of, entry_at, entries, bytes_in, sizes_in, is_file, has_file, valid_of}
use Rattle.files.specs.Files.{record_bytes}
use Rattle.file_laws.specs.Layout.{records_of, directory_of, before, after, size_of, moved_down, without_file}
use Rattle.file_laws.proofs.Written.{Bytes, Proper, AllProper, formed, canonical, directory_long, records_long, records_append, bytes_append, sizes_append}
use Rattle.file_laws.proofs.Records.{record_long, entry_seam}
use Rattle.file_laws.proofs.Seams.{paste_seam, paste_whole, paste_right}

-- where the record of this sort and number stands
pub record Split (es : List Entry) (k n : ℕ) : Type 0 where
  pub the : Entry
  pub is : is_file the k n ≡ true
  pub parts : es ≡ before es k n ++ (the ∷ after es k n)
  pub size : size_of es k n ≡ the.size

split_cons : (e : Entry) (es : List Entry) (k n : ℕ) (t : Bool) → is_file e k n ≡ t → (has_file es k n ≡ true → Split es k n) → (t || has_file es k n) ≡ true → Split (e ∷ es) k n
unfolding before after size_of
split_cons e es k n true h f g = record { the = e; is = h; parts = rw h; size = rw h }
split_cons e es k n false h f g =
    let q = f g in
    record { the = q.the; is = q.is; parts = rw h (ap (λ (l : List Entry). e ∷ l) q.parts); size = rw h q.size }

pub split : (es : List Entry) (k n : ℕ) → has_file es k n ≡ true → Split es k n
unfolding has_file
split [] k n h = absurd (false≢true h)
split (e ∷ es) k n h = split_cons e es k n (is_file e k n) refl (λ g. split es k n g) h

pub proper_left : (xs ys : List Entry) → AllProper (xs ++ ys) → AllProper xs
proper_left [] ys a = tt
proper_left (x ∷ xs) ys a = (a.0, proper_left xs ys a.1)

pub proper_right : (xs ys : List Entry) → AllProper (xs ++ ys) → AllProper ys
proper_right [] ys a = a
proper_right (x ∷ xs) ys a = proper_right xs ys a.1

-- The directory: records after the one at xs move up over it, and zeros go behind them.
directory_less : (xs ys : List Entry) (e : Entry) (u s s₁ s₂ : List ℕ) (at n end : ℕ)
    → AllProper xs → Proper e → AllProper ys
    → at ≡ bytes_in xs → n ≡ length_of e.kind → end ≡ bytes_in xs + (n + bytes_in ys) → end ≤ 256
    → s ≡ directory_of (xs ++ (e ∷ ys)) ++ u
    → s₁ ≡ paste s at (drop (at + n) s) (end - (at + n))
    → s₂ ≡ paste s₁ (end - n) (replicate n 0) n
    → s₂ ≡ directory_of (xs ++ ys) ++ u
unfolding directory_of records_of bytes_in
directory_less xs ys e u s s₁ s₂ at n end ax pe ay ha hn he hl hs h₁ h₂ =
    let x = records_of xs in
    let r = record_bytes e in
    let y = records_of ys in
    let lx : length x ≡ at = records_long xs ax ∙ sym ha in
    let lr : length r ≡ n = record_long e pe ∙ sym hn in
    let ly : length y ≡ end - (at + n) = records_long ys ay ∙ omega arith in
    let b : bytes_in (xs ++ (e ∷ ys)) ≡ end = bytes_append xs (e ∷ ys) ∙ omega arith in
    let t : List ℕ = replicate (256 - end) 0 ++ u in
    let s' : s ≡ x ++ (r ++ (y ++ t)) = hs ∙ rw (b, records_append xs (e ∷ ys), append_assoc, append_assoc, append_assoc) in
    let lxr : length (x ++ r) ≡ at + n = length-append x r ∙ rw (lx, lr) in
    let d : drop (at + n) s ≡ y ++ t = rw (s', ← append_assoc x r (y ++ t)) (drop_at (x ++ r) (y ++ t) (at + n) lxr) in
    let p₁ : s₁ ≡ x ++ (y ++ drop (end - (at + n)) (r ++ (y ++ t))) = h₁ ∙ rw (d, s') (paste_seam x (r ++ (y ++ t)) y t at (end - (at + n)) lx ly) in
    let lxy : length (x ++ y) ≡ end - n = length-append x y ∙ omega arith in
    let g : List ℕ = drop (end - (at + n)) (r ++ (y ++ t)) in
    let lz : length (replicate {A = ℕ} n 0) ≡ n = length-replicate n 0 in
    let p₂ : s₂ ≡ (x ++ y) ++ (replicate n 0 ++ drop n g) = h₂ ∙ rw (p₁, ← append_assoc x y g) (paste_whole (x ++ y) g (replicate n 0) (end - n) n lxy lz) in
    let lry : length (r ++ y) ≡ end - (at + n) + n = length-append r y ∙ omega arith in
    let k : drop n g ≡ t = drop-drop n (end - (at + n)) (r ++ (y ++ t)) ∙ rw (← append_assoc r y t) (drop_at (r ++ y) t (end - (at + n) + n) lry) in
    let m : n + (256 - end) ≡ 256 - (bytes_in xs + bytes_in ys) = omega arith in
    p₂ ∙ rw (k, bytes_append xs ys, records_append xs ys, ← m, ← replicate-append-replicate {A = ℕ} n (256 - end) 0, append_assoc, append_assoc, append_assoc, append_assoc)

at_record : (s : List ℕ) (xs ys : List Entry) (e : Entry) (u : List ℕ) → AllProper xs → Proper e → s ≡ directory_of (xs ++ (e ∷ ys)) ++ u → e ≡ entry_at s (bytes_in xs)
unfolding directory_of records_of
at_record s xs ys e u a p h =
    let x = records_of xs in
    let t : List ℕ = records_of ys ++ (replicate (256 - bytes_in (xs ++ (e ∷ ys))) 0 ++ u) in
    let s' : s ≡ x ++ (record_bytes e ++ t) = h ∙ rw (records_append xs (e ∷ ys), append_assoc, append_assoc, append_assoc) in
    rw (s', ← records_long xs a) (entry_seam x e t p)

module _ (s : List ℕ) (b : Bytes s) (l : 256 ≤ length s) (v : valid_of s ≡ true) (k n : ℕ) (has : has_file (entries s) k n ≡ true) where
  abbrev pub es : List Entry
  es = entries s

  abbrev pub xs : List Entry
  xs = before es k n

  abbrev pub ys : List Entry
  ys = after es k n

  abbrev pub cut : Split es k n
  cut = split es k n has

  abbrev pub all : AllProper (xs ++ (cut.the ∷ ys))
  all = subst AllProper cut.parts (formed s b l 0).proper

  pub bytes_cut : bytes_in es ≡ bytes_in xs + (length_of cut.the.kind + bytes_in ys)
  unfolding bytes_in
  bytes_cut = ap bytes_in cut.parts ∙ bytes_append xs (cut.the ∷ ys)

  pub sizes_cut : sizes_in es ≡ sizes_in xs + (cut.the.size + sizes_in ys)
  unfolding sizes_in
  sizes_cut = ap sizes_in cut.parts ∙ sizes_append xs (cut.the ∷ ys)

  canonical_cut : s ≡ directory_of (xs ++ (cut.the ∷ ys)) ++ drop 256 s
  canonical_cut = canonical s b l v ∙ ap (λ (z : List Entry). directory_of z ++ drop 256 s) cut.parts

  pub the_entry : (at : ℕ) → at ≡ bytes_in xs → cut.the ≡ entry_at s at
  the_entry at h = rw h (at_record s xs ys cut.the (drop 256 s) (proper_left xs _ all) (proper_right xs (cut.the ∷ ys) all).0 canonical_cut)

  -- what the three moves leave is what the definition says
  pub file_less : (s₁ s₂ s₃ : List ℕ) (at start len end used : ℕ) (e : Entry)
      → at ≡ bytes_in xs → start ≡ 256 + sizes_in xs → e ≡ entry_at s at → len ≡ length_of e.kind → end ≡ bytes_in es → used ≡ sizes_in es
      → s₁ ≡ paste s start (drop (start + e.size) s) (256 + used - (start + e.size))
      → s₂ ≡ paste s₁ at (drop (at + len) s₁) (end - (at + len))
      → s₃ ≡ paste s₂ (end - len) (replicate len 0) len
      → s₃ ≡ without_file s k n
  unfolding without_file
  file_less s₁ s₂ s₃ at start len end used e ha hs he hl hend hu h₁ h₂ h₃ =
      let q : e ≡ cut.the = he ∙ sym (the_entry at ha) in
      let w : bytes_in es ≤ 256 = omega (arith, (formed s b l 0).fits (omega arith)) in
      let d : List ℕ = directory_of (xs ++ (cut.the ∷ ys)) in
      let u : List ℕ = drop 256 s in
      let a = sizes_in xs in
      let z = cut.the.size in
      let m : 256 + used - (start + e.size) ≡ sizes_in ys = rw q (omega (arith, sizes_cut)) in
      let ld : length d ≡ 256 = directory_long _ all (omega (arith, ap bytes_in cut.parts)) in
      let f : start + e.size ≡ length d + (a + z) = rw q (omega arith) in
      let g : drop (start + e.size) s ≡ drop (a + z) u = rw (f) (ap (drop (length d + (a + z))) canonical_cut ∙ drop-append-add d u (a + z)) in
      let p₁ : s₁ ≡ d ++ moved_down u a z (sizes_in ys) = h₁ ∙ rw (g, m) (ap (λ (w : List ℕ). paste w start (drop (a + z) u) (sizes_in ys)) canonical_cut ∙ paste_right d u (drop (a + z) u) a start (sizes_in ys) (omega arith)) in
      rw cut.size
      (directory_less xs ys cut.the (moved_down u a z (sizes_in ys)) s₁ s₂ s₃ at len end (proper_left xs _ all) (proper_right xs (cut.the ∷ ys) all).0 (proper_right xs (cut.the ∷ ys) all).1
      ha (hl ∙ ap (λ (w : Entry). length_of w.kind) q) (omega (arith, bytes_cut, hl, ap (λ (w : Entry). length_of w.kind) q)) (omega arith) p₁ h₂ h₃)
