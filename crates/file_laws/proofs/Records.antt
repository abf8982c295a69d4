-- One record: the bytes that are written of it are those that it is read from.
-- Assumes nothing.
use mathlib.Core.Path.{◌≡◌, refl, sym, ap, ◌∙◌}
use mathlib.Core.List.{List, [], ◌∷◌, ◌++◌}
use mathlib.Core.Bool.{Bool, true, false, cond}
use Prim.Native.Nat.{ℕ, zero, suc, ◌+◌, ◌*◌, ◌/◌, ◌%◌, ◌≤◌, ◌<◌}
use native.Mathlib.Omega.{arith}
use native.Mathlib.Numerals.{add-one}
use lib.ListN.{length, get_or, drop}
use lib.Seq.{get_or-append-add, drop-cons}
use Rattle.directory.specs.declared.Entry.{Entry}
use Rattle.directory.specs.Directory.{is_newer, length_of, entry_at}
use Rattle.directory.proofs.RecordKinds.{length-known, length-room}
use Rattle.directory.proofs.Laws.{by_cond, entry_kind, entry_of, entry_bytes}
use Rattle.files.specs.Files.{byte_of, record_bytes}

abbrev pub Bytes : List ℕ → Type 0
Bytes s = (i : ℕ) → get_or s i 0 < 256

-- a known kind, and a number and a size that fit the bytes which it has for them
pub record Proper (e : Entry) : Type 0 where
  pub known : length_of e.kind ≡ 0 → ⊥
  pub number_fits : e.number < cond (is_newer e.kind) 65536 256
  pub size_fits : e.size < cond (is_newer e.kind) 4294967296 65536

-- the two forms of a record
abbrev newer_bytes : Entry → List ℕ
newer_bytes e = e.kind ∷ byte_of e.number 0 ∷ byte_of e.number 1 ∷ byte_of e.size 0 ∷ byte_of e.size 1 ∷ byte_of e.size 2 ∷ byte_of e.size 3 ∷ []

abbrev older_bytes : Entry → List ℕ
older_bytes e = e.kind ∷ byte_of e.number 0 ∷ byte_of e.size 0 ∷ byte_of e.size 1 ∷ []

length-cond : (t : Bool) (xs ys : List ℕ) → length (cond t xs ys) ≡ cond t (length xs) (length ys)
length-cond true xs ys = refl
length-cond false xs ys = refl

-- of any kind, there are as many bytes as its length asks for
pub record_room : (e : Entry) → length_of e.kind ≤ length (record_bytes e)
unfolding record_bytes
record_room e = rw (length-cond (is_newer e.kind) (newer_bytes e) (older_bytes e)) (length-room e.kind)

abbrev Small : List ℕ → Type 0
Small [] = Unit {0}
Small (a ∷ r) = (a < 256) × Small r

small_bytes : (r : List ℕ) → Small r → Bytes r
small_bytes [] h i = omega arith
small_bytes (a ∷ r) h zero = h.0
small_bytes (a ∷ r) h (suc i) = small_bytes r h.1 i

-- and all are bytes
pub record_bytes_lem : (e : Entry) → e.kind < 256 → Bytes (record_bytes e)
unfolding record_bytes
record_bytes_lem e h =
    by_cond Bytes (is_newer e.kind) (newer_bytes e) (older_bytes e)
    (λ _. small_bytes (newer_bytes e) (h, (omega arith, (omega arith, (omega arith, (omega arith, (omega arith, (omega arith, tt))))))))
    (λ _. small_bytes (older_bytes e) (h, (omega arith, (omega arith, (omega arith, tt)))))

pub record_long : (e : Entry) → Proper e → length (record_bytes e) ≡ length_of e.kind
unfolding record_bytes
record_long e p = length-cond (is_newer e.kind) (newer_bytes e) (older_bytes e) ∙ sym (length-known e.kind p.known)

-- ---- what is written is read

pub seam : (xs ys : List ℕ) → get_or (xs ++ ys) (length xs) 0 ≡ get_or ys 0 0
seam xs ys = let e : length xs ≡ length xs + 0 = omega arith in ap (λ (n : ℕ). get_or (xs ++ ys) n 0) e ∙ get_or-append-add xs ys 0 0

-- a number is its bytes
pair_back : (n : ℕ) → n < 65536 → byte_of n 0 + 256 * byte_of n 1 ≡ n
pair_back n h = omega arith

quad_back : (n : ℕ) → n < 4294967296 → byte_of n 0 + 256 * byte_of n 1 + 65536 * (byte_of n 2 + 256 * byte_of n 3) ≡ n
quad_back n h =
    let a : n / 256 % 256 + 256 * (n / 65536) ≡ n / 256 = omega arith in
    let b : n / 65536 % 256 + 256 * (n / 16777216) ≡ n / 65536 = omega arith in
    let c : n / 16777216 % 256 ≡ n / 16777216 = omega arith in
    joined (byte_of n 0) (byte_of n 1) (byte_of n 2) (byte_of n 3) (n / 256) (n / 65536) n (omega arith) a (rw c b)
  where
    joined : (a b c d x y n : ℕ) → a + 256 * x ≡ n → b + 256 * y ≡ x → c + 256 * d ≡ y → a + 256 * b + 65536 * (c + 256 * d) ≡ n
    joined a b c d x y n e f g = omega arith

seam_by : (xs : List ℕ) (e : Entry) (t : List ℕ) → Proper e → (b : Bool) → is_newer e.kind ≡ b → entry_at (xs ++ (record_bytes e ++ t)) (length xs) ≡ e
unfolding record_bytes
seam_by xs e t p true h =
    let r : List ℕ = newer_bytes e ++ t in
    let f : e.number < 65536 = rw h at p.number_fits in
    let g : e.size < 4294967296 = rw h at p.size_fits in
    rw h (entry_bytes (xs ++ r) (length xs)
    ∙ rw (seam xs r, get_or-append-add xs r 1 0, get_or-append-add xs r 2 0, get_or-append-add xs r 3 0, get_or-append-add xs r 4 0, get_or-append-add xs r 5 0, get_or-append-add xs r 6 0, h, pair_back e.number f, quad_back e.size g))
seam_by xs e t p false h =
    let r : List ℕ = older_bytes e ++ t in
    let f : e.number < 256 = rw h at p.number_fits in
    let g : e.size < 65536 = rw h at p.size_fits in
    let n : byte_of e.number 0 ≡ e.number = omega arith in
    rw h (entry_bytes (xs ++ r) (length xs)
    ∙ rw (seam xs r, get_or-append-add xs r 1 0, get_or-append-add xs r 2 0, get_or-append-add xs r 3 0, h, n, pair_back e.size g))

pub entry_seam : (xs : List ℕ) (e : Entry) (t : List ℕ) → Proper e → e ≡ entry_at (xs ++ (record_bytes e ++ t)) (length xs)
entry_seam xs e t p = sym (seam_by xs e t p (is_newer e.kind) refl)

pub kind_seam : (xs : List ℕ) (e : Entry) (t : List ℕ) → Proper e → get_or (xs ++ (record_bytes e ++ t)) (length xs) 0 ≡ e.kind
kind_seam xs e t p = sym (entry_kind (xs ++ (record_bytes e ++ t)) (length xs)) ∙ ap (λ (x : Entry). x.kind) (sym (entry_seam xs e t p))

-- ---- what is read was written

pub drop_next : (s : List ℕ) (i j : ℕ) → j ≡ i + 1 → i < length s → drop i s ≡ get_or s i 0 ∷ drop j s
drop_next s i j e h = rw (e, add-one) (drop-cons s i 0 h)

-- n bytes of s, the first of them number i behind p
abbrev spelled : List ℕ → ℕ → ℕ → ℕ → List ℕ
spelled s p i zero = []
spelled s p i (suc n) = get_or s (p + i) 0 ∷ spelled s p (i + 1) n

drop_spelled : (n : ℕ) (s : List ℕ) (p i : ℕ) → p + i + n ≤ length s → drop (p + i) s ≡ spelled s p i n ++ drop (p + (i + n)) s
drop_spelled zero s p i h = let e : p + i ≡ p + (i + 0) = omega arith in ap (λ (k : ℕ). drop k s) e
drop_spelled (suc n) s p i h =
    let e : p + (i + 1 + n) ≡ p + (i + suc n) = omega arith in
    drop_next s (p + i) (p + (i + 1)) (omega arith) (omega arith)
    ∙ ap (λ (l : List ℕ). get_or s (p + i) 0 ∷ l) (drop_spelled n s p (i + 1) (omega arith) ∙ ap (λ (k : ℕ). spelled s p (i + 1) n ++ drop k s) e)

-- what is read from seven bytes is written as the same bytes, as many as its kind has
module _ (a b c d e f g : ℕ) (hb : b < 256) (hc : c < 256) (hd : d < 256) (he : e < 256) (hf : f < 256) (hg : g < 256) where
  newer_back : is_newer a ≡ true → record_bytes (entry_of a b c d e f g) ≡ a ∷ b ∷ c ∷ d ∷ e ∷ f ∷ g ∷ []
  unfolding record_bytes
  newer_back h =
      let n : ℕ = b + 256 * c in
      let z : ℕ = d + 256 * e + 65536 * (f + 256 * g) in
      let n₀ : byte_of n 0 ≡ b = omega arith in
      let n₁ : byte_of n 1 ≡ c = omega arith in
      let z₀ : byte_of z 0 ≡ d = omega arith in
      let d₁ : z / 256 ≡ e + 256 * (f + 256 * g) = omega arith in
      let d₂ : z / 65536 ≡ f + 256 * g = omega arith in
      let d₃ : z / 16777216 ≡ g = omega arith in
      let z₁ : byte_of z 1 ≡ e = ap (λ (q : ℕ). q % 256) d₁ ∙ omega arith in
      let z₂ : byte_of z 2 ≡ f = ap (λ (q : ℕ). q % 256) d₂ ∙ omega arith in
      let z₃ : byte_of z 3 ≡ g = ap (λ (q : ℕ). q % 256) d₃ ∙ omega arith in
      rw (h, h, n₀, n₁, z₀, z₁, z₂, z₃)

  older_back : is_newer a ≡ false → record_bytes (entry_of a b c d e f g) ≡ a ∷ b ∷ c ∷ d ∷ []
  unfolding record_bytes
  older_back h =
      let z : ℕ = c + 256 * d in
      let n₀ : byte_of b 0 ≡ b = omega arith in
      let z₀ : byte_of z 0 ≡ c = omega arith in
      let z₁ : byte_of z 1 ≡ d = omega arith in
      rw (h, h, n₀, z₀, z₁)

  proper_bytes : (length_of a ≡ 0 → ⊥) → (t : Bool) → is_newer a ≡ t → Proper (entry_of a b c d e f g)
  proper_bytes k true h = rw h (record { known = k; number_fits = rw h (omega arith); size_fits = rw h (omega arith) })
  proper_bytes k false h = rw h (record { known = k; number_fits = rw h (omega arith); size_fits = rw h (omega arith) })

record_spelled : (s : List ℕ) (p : ℕ) → Bytes s → (t : Bool) → is_newer (get_or s p 0) ≡ t → record_bytes (entry_at s p) ≡ spelled s p 0 (cond t 7 4)
record_spelled s p b true h =
    let z : p + 0 ≡ p = omega arith in
    ap record_bytes (entry_bytes s p) ∙ rw z (newer_back (get_or s p 0) _ _ _ _ _ _ (b (p + 1)) (b (p + 2)) (b (p + 3)) (b (p + 4)) (b (p + 5)) (b (p + 6)) h)
record_spelled s p b false h =
    let z : p + 0 ≡ p = omega arith in
    ap record_bytes (entry_bytes s p) ∙ rw z (older_back (get_or s p 0) _ _ _ _ _ _ (b (p + 1)) (b (p + 2)) (b (p + 3)) (b (p + 4)) (b (p + 5)) (b (p + 6)) h)

pub drop_record : (s : List ℕ) (p n : ℕ) → Bytes s → n ≡ length_of (get_or s p 0) → 4 ≤ n → p + n ≤ length s → drop p s ≡ record_bytes (entry_at s p) ++ drop (p + n) s
drop_record s p n b e l h =
    let k = get_or s p 0 in
    let t = is_newer k in
    let m : n ≡ cond t 7 4 = e ∙ length-known k (λ z. omega (arith, e)) in
    let r : record_bytes (entry_at s p) ≡ spelled s p 0 n = rw m (record_spelled s p b t refl) in
    let z : p + 0 ≡ p = omega arith in
    let y : 0 + n ≡ n = omega arith in
    rw r (rw (z, y) at (drop_spelled n s p 0 (omega arith)))

pub entry_proper : (s : List ℕ) (p : ℕ) → Bytes s → (length_of (get_or s p 0) ≡ 0 → ⊥) → Proper (entry_at s p)
entry_proper s p b k =
    rw (entry_bytes s p)
    (proper_bytes (get_or s p 0) _ _ _ _ _ _ (b (p + 1)) (b (p + 2)) (b (p + 3)) (b (p + 4)) (b (p + 5)) (b (p + 6)) k (is_newer (get_or s p 0)) refl)
