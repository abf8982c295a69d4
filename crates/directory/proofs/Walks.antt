-- The loops over the directory's records: what is left from here is what was to be done from the start.
-- Assumes nothing.
use mathlib.Core.Path.{◌≡◌, refl, sym, ap, ◌∙◌}
use mathlib.Core.List.{List, ◌∷◌}
use Rattle.std.specs.Prelude.{Option, Some, None}
use Rattle.std.specs.Bool.{then_some}
use mathlib.Core.Bool.{Bool, true, false, cond, ◌&&◌, not, and-true, and-false, and_assoc, false≢true}
use Prim.Native.Nat.{ℕ, zero, suc, ◌+◌, ◌-◌, ◌*◌, ◌/◌, ◌%◌, ◌^◌, ◌≤◌, ◌<◌}
use native.Mathlib.Omega.{arith}
use lib.ListN.{length, get_or, take, drop, replicate, length-set}
use Rattle.std.proofs.lemmas.List.{get_or-take, get_or-drop}
use lib.Dec.{leb, eqb}
use lib.Bits.{bit_or, or_zero_l, or_add_and, and_le_r}
use borrow.Author.Tests.{eq-eqb, ne_eqb, lt-leb, leb-true}
use Rattle.pixels.specs.Framebuffer.{bit_of}
use Rattle.directory.specs.declared.Entry.{Entry}
use Rattle.directory.specs.declared.Totals.{Totals}
use Rattle.directory.specs.declared.Record.{Record}
use Rattle.directory.specs.declared.Records.{Records}
use Rattle.directory.specs.Records.{goes_on}
use Rattle.directory.specs.Directory.{sort_of, max_number, max_records, step_at, entry_at, entries_from, entries, bytes_in, sizes_in, totals_of, is_file, has_file, find_in, find_of, is_fair, keep_rules, zeros, zeros_from, valid_of, survey_of}
use Rattle.directory.proofs.Laws.{stands, none, more, kind_length, located}
use Rattle.directory.proofs.Seen.{table_size, mark, slot, Sort, entry_sort, fresh, fresh_all, fresh_mark}

-- A step of a walk.

-- from i to j, over the record r
pub record Going (s : List ℕ) (i j : Records) (r : Record) : Type 0 where
  pub there : step_at s i.at ≡ 0 → ⊥
  pub place : r.at ≡ i.at
  pub behind : r.behind ≡ i.at + step_at s i.at
  pub read : r.entry ≡ entry_at s i.at
  pub small : r.entry.size < 4294967296
  pub same : j.store.now ≡ s
  pub next : j.at ≡ r.behind

pub going : (s : List ℕ) (i j : Records) (r : Record) → i.store.now ≡ s → goes_on i (Some r) j → Going s i j r
going s i j r e h = record { there = rw (← e) h.0; place = h.1; behind = rw (← e) h.2; read = rw (← e) h.3; small = h.4; same = h.5 ∙ e; next = h.6 }

-- and at its end
pub stopping : (s : List ℕ) (i j : Records) → i.store.now ≡ s → goes_on i None j → step_at s i.at ≡ 0
stopping s i j e h = rw (← e) h

-- Sums.

pub record Counting (s : List ℕ) (p used : ℕ) : Type 0 where
  pub within : p ≤ 256
  pub small : used ≤ 4294967296 * p
  pub ends : p + bytes_in (entries_from p s) ≡ bytes_in (entries s)
  pub uses : used + sizes_in (entries_from p s) ≡ sizes_in (entries s)

pub counting_start : (s : List ℕ) → Counting s 0 0
counting_start s = record { within = omega arith; small = omega arith; ends = omega arith; uses = omega arith }

pub counting_more : (s : List ℕ) (i j : Records) (r : Record) (u : ℕ) → Counting s i.at u → Going s i j r → Counting s r.behind (u + r.entry.size)
unfolding bytes_in sizes_in
counting_more s i j r u w g =
    let n = step_at s i.at in
    let t = stands s i.at n refl g.there in
    let k = kind_length s i.at n r.entry refl g.there g.read in
    let m = more s i.at n r.entry refl g.there g.read in
    let b : bytes_in (entries_from i.at s) ≡ n + bytes_in (entries_from (i.at + n) s) = ap bytes_in m ∙ rw k in
    let z : sizes_in (entries_from i.at s) ≡ r.entry.size + sizes_in (entries_from (i.at + n) s) = ap sizes_in m in
    rw g.behind
    (record {
      within = t.fits;
      small = omega (arith, t.least, w.small, g.small);
      ends = omega (arith, b, w.ends);
      uses = omega (arith, z, w.uses);
    })

pub counting_end : (s : List ℕ) (p u : ℕ) → Counting s p u → step_at s p ≡ 0 → record { end = p; used = u } ≡ totals_of (entries s)
unfolding bytes_in sizes_in
counting_end s p u w h =
    let m = none s p 0 (sym h) refl in
    let b : bytes_in (entries_from p s) ≡ 0 = ap bytes_in m in
    let z : sizes_in (entries_from p s) ≡ 0 = ap sizes_in m in
    let b' : p ≡ bytes_in (entries s) = omega (arith, b, w.ends) in
    let z' : u ≡ sizes_in (entries s) = omega (arith, z, w.uses) in
    rw (b', z')

-- A search.

pub record Finding (s : List ℕ) (k m p a : ℕ) : Type 0 where
  pub within : p ≤ 256
  pub small : a ≤ 256 + 4294967296 * p
  pub rest : find_in (entries_from p s) p a k m ≡ find_of s k m

pub finding_start : (s : List ℕ) (k m : ℕ) → Finding s k m 0 256
finding_start s k m = record { within = omega arith; small = omega arith; rest = refl }

pub finding_none : (s : List ℕ) (k m p a : ℕ) → Finding s k m p a → step_at s p ≡ 0 → None ≡ find_of s k m
unfolding find_in
finding_none s k m p a w h = rw (none s p 0 (sym h) refl) at w.rest

pub finding_here : (s : List ℕ) (k m a : ℕ) (i j : Records) (r : Record) (b : Bool) → Finding s k m i.at a → Going s i j r → b ≡ is_file r.entry k m → b ≡ true
    → Some (located r.at a r.entry.size) ≡ find_of s k m
unfolding find_in
finding_here s k m a i j r b w g e t = rw g.place (rw (more s i.at (step_at s i.at) r.entry refl g.there g.read, ← e, t) at w.rest)

pub finding_more : (s : List ℕ) (k m a : ℕ) (i j : Records) (r : Record) (b : Bool) → Finding s k m i.at a → Going s i j r → b ≡ is_file r.entry k m → b ≡ false → Finding s k m j.at (a + r.entry.size)
unfolding find_in
finding_more s k m a i j r b w g e t =
    let n = step_at s i.at in
    let q = stands s i.at n refl g.there in
    let x = kind_length s i.at n r.entry refl g.there g.read in
    rw (g.next, g.behind)
    (record {
      within = omega (arith, q.fits);
      small = omega (arith, q.least, w.small, g.small);
      rest = rw (more s i.at n r.entry refl g.there g.read, ← e, t, x) at w.rest;
    })

-- Bytes that are 0: `all` has every bit of those before p.

pub record Zeroing (s : List ℕ) (o p all : ℕ) : Type 0 where
  pub rest : (eqb all 0 && zeros_from p s) ≡ zeros_from o s

zeros_past : (s : List ℕ) (p : ℕ) → 256 ≤ p → zeros_from p s ≡ true
unfolding zeros_from zeros
zeros_past s p h = let e : 256 - p ≡ 0 = omega arith in rw e

zeros_more : (s : List ℕ) (p : ℕ) → p < 256 → zeros_from p s ≡ (eqb (get_or s p 0) 0 && zeros_from (p + 1) s)
unfolding zeros_from zeros
zeros_more s p h = let e : 256 - p ≡ suc (256 - (p + 1)) = omega arith in rw e

or_none : (a b : ℕ) → eqb (bit_or a b) 0 ≡ (eqb a 0 && eqb b 0)
or_none zero b = rw (or_zero_l b)
or_none (suc a) b = ne_eqb (bit_or (suc a) b) 0 (omega (arith, or_add_and (suc a) b, and_le_r (suc a) b)) ∙ rw (ne_eqb (suc a) 0 (omega arith))

pub zeroing_end : (s : List ℕ) (o p a : ℕ) → Zeroing s o p a → 256 ≤ p → eqb a 0 ≡ zeros_from o s
zeroing_end s o p a w h = sym (and-true (eqb a 0)) ∙ rw (zeros_past s p h) at w.rest

pub zeroing_more : (s : List ℕ) (o p a : ℕ) → Zeroing s o p a → p < 256 → Zeroing s o (p + 1) (bit_or a (get_or s p 0))
zeroing_more s o p a w h = record { rest = rw (or_none a (get_or s p 0), and_assoc (eqb a 0) (eqb (get_or s p 0) 0) (zeros_from (p + 1) s), ← zeros_more s p h) w.rest }

-- A survey: what was counted, and the table of the files before p.

pub record Surveying (s t : List ℕ) (p used : ℕ) : Type 0 where
  pub counting : Counting s p used
  pub long : length t ≡ table_size
  pub rest : (keep_rules (entries_from p s) && fresh t (entries_from p s)) ≡ keep_rules (entries s)

pub survey_start : (s : List ℕ) → Surveying s (replicate table_size 0) 0 0
survey_start s =
    record {
      counting = counting_start s;
      long = refl;
      rest = rw (fresh_all table_size (entries s)) (and-true (keep_rules (entries s)));
    }

broken : (s : List ℕ) → keep_rules (entries s) ≡ false → false ≡ valid_of s
unfolding valid_of
broken s e = rw (e, and-false (zeros_from (bytes_in (entries s)) s && leb (bytes_in (entries s)) max_records))

pub short : (s : List ℕ) → length s < 256 → false ≡ valid_of s
unfolding valid_of
short s h =
    rw (
      lt-leb (256 + sizes_in (entries s)) (length s) (omega arith),
      and-false (zeros_from (bytes_in (entries s)) s && leb (bytes_in (entries s)) max_records && keep_rules (entries s)),
    )

-- what comes of it
pub surveyed_broken : (s : List ℕ) → false ≡ valid_of s → None ≡ survey_of s
unfolding survey_of
surveyed_broken s h = rw (← h)

some_if : (v : Bool) (t : Totals) → then_some v t ≡ cond v (Some t) None
some_if true t = refl
some_if false t = refl

pub surveyed : (s : List ℕ) (v : Bool) (t : Totals) → v ≡ valid_of s → t ≡ totals_of (entries s) → then_some v t ≡ survey_of s
unfolding survey_of
surveyed s v t h e = some_if v t ∙ rw (h, e)

-- and what it says
survey_none : (v : Bool) (t : Totals) → cond v (Some t) None ≡ None → v ≡ false
survey_none true t e = cc
survey_none false t e = refl

survey_some : (v : Bool) (t u : Totals) → cond v (Some t) None ≡ Some u → (v ≡ true) × (u ≡ t)
survey_some true t u e = (refl, cc)
survey_some false t u e = cc

pub survey_breaks : (s : List ℕ) (r : Option Totals) → r ≡ survey_of s → r ≡ None → valid_of s ≡ false
unfolding survey_of
survey_breaks s r e h = survey_none (valid_of s) (totals_of (entries s)) (sym e ∙ h)

pub survey_says : (s : List ℕ) (r : Option Totals) (t : Totals) → r ≡ survey_of s → r ≡ Some t → valid_of s ≡ true
unfolding survey_of
survey_says s r t e h = (survey_some (valid_of s) (totals_of (entries s)) t (sym e ∙ h)).0

pub survey_totals : (s : List ℕ) (r : Option Totals) (t : Totals) → r ≡ survey_of s → r ≡ Some t → t ≡ totals_of (entries s)
unfolding survey_of
survey_totals s r t e h = (survey_some (valid_of s) (totals_of (entries s)) t (sym e ∙ h)).1

turned : (a b c : Bool) → (a && (b && c)) ≡ ((c && a) && b)
turned true b true = and-true b
turned true b false = and-false b
turned false b true = refl
turned false b false = refl

settled : (z c r : Bool) → ((c && r) && z) ≡ (((z && c) && true) && r)
settled true true r = and-true r
settled true false r = refl
settled false true r = and-false r
settled false false r = refl

fair_number : (e : Entry) → is_fair e ≡ true → e.number ≤ max_number
unfolding is_fair
fair_number e h = leb-true e.number max_number (middle (not (eqb e.size 0)) (leb e.number max_number) (not (is_file e 1 1)) h)
  where
    middle : (a b c : Bool) → ((a && b) && c) ≡ true → b ≡ true
    middle true true c h = refl
    middle true false c h = h
    middle false b c h = absurd (false≢true h)

module _ (s t : List ℕ) (u : ℕ) where
  pub survey_end : (p : ℕ) → Surveying s t p u → step_at s p ≡ 0 → (v : Bool) → v ≡ (leb p max_records && leb (256 + u) (length s) && zeros_from p s) → v ≡ valid_of s
  unfolding valid_of keep_rules fresh
  survey_end p w h v f =
      let m = counting_end s p u w.counting h in
      let k : true ≡ keep_rules (entries s) = rw (none s p 0 (sym h) refl) at w.rest in
      f ∙ settled (zeros_from p s) (leb p max_records) (leb (256 + u) (length s))
      ∙ ap (λ (x : Totals). zeros_from x.end s && leb x.end max_records && true && leb (256 + x.used) (length s)) m
      ∙ rw (← k)

  module _ (i j : Records) (r : Record) (w : Surveying s t i.at u) (go : Going s i j r) (v : Bool) (g : v ≡ is_fair r.entry) where
    first : entries_from i.at s ≡ r.entry ∷ entries_from r.behind s
    first = rw go.behind (more s i.at (step_at s i.at) r.entry refl go.there go.read)

    pub survey_unfair : v ≡ false → false ≡ valid_of s
    unfolding keep_rules
    survey_unfair x = let a : false ≡ keep_rules (entries s) = rw (first, ← g, x) at w.rest in broken s (sym a)

    module _ (x : v ≡ true) where
      -- so that its bit is in the table
      pub survey_number : r.entry.number ≤ max_number
      survey_number = fair_number r.entry (sym g ∙ x)

      module _ (k : ℕ) (e : k ≡ slot (sort_of r.entry.kind) r.entry.number) where
        pub survey_twice : get_or t (k / 8) 0 / 2 ^ (7 - k % 8) % 2 ≡ 1 → false ≡ valid_of s
        unfolding keep_rules fresh bit_of
        survey_twice y =
            let m : fresh t (entries_from i.at s) ≡ false = rw (first, ← e, eq-eqb (get_or t (k / 8) 0 / 2 ^ (7 - k % 8) % 2) 1 y) in
            let a : (keep_rules (entries_from i.at s) && false) ≡ keep_rules (entries s) = rw m at w.rest in
            broken s (sym a ∙ and-false (keep_rules (entries_from i.at s)))

        pub survey_more : (get_or t (k / 8) 0 / 2 ^ (7 - k % 8) % 2 ≡ 1 → ⊥) → Surveying s (mark t k) r.behind (u + r.entry.size)
        unfolding keep_rules fresh bit_of
        survey_more y =
            let n = r.entry.number in
            let b = sort_of r.entry.kind in
            let a : Sort b = rw go.read (entry_sort s i.at go.there) in
            let m : (not (has_file (entries_from r.behind s) b n) && keep_rules (entries_from r.behind s) && fresh t (entries_from r.behind s)) ≡ keep_rules (entries s)
            = rw (first, ← g, x, ← e, ne_eqb (get_or t (k / 8) 0 / 2 ^ (7 - k % 8) % 2) 1 y) at w.rest in
            record {
              counting = counting_more s i j r u w.counting go;
              long = length-set t (k / 8) _ ∙ w.long;
              rest =
                  rw (e, fresh_mark s t b n a (omega (arith, survey_number, w.long)) r.behind)
                  (turned (keep_rules (entries_from r.behind s)) (fresh t (entries_from r.behind s)) (not (has_file (entries_from r.behind s) b n)) ∙ m);
            }
