-- The ledger is not empty of promises: a bar written with 0, and then touched by nothing but its own writes, is known.
-- Assumes nothing.
use mathlib.Core.Path.{◌≡◌, refl}
use mathlib.Core.Bool.{true, false, or-true}
use mathlib.Core.List.{List, [], ◌∷◌, ◌++◌}
use Prim.Native.Nat.{ℕ, suc}
use lib.Dec.{eqb}
use lib.ListN.{length, take}
use lib.Seq.{take-length}
use borrow.Author.Tests.{eqb-false, eq-eqb, ne_eqb}
use Rattle.pixels.specs.Framebuffer.{Region}
use Rattle.pixels.proofs.Tests.{by_test}
use Rattle.bar_graph.specs.Bars.{rectangle_of}
use Rattle.bar_ledger.specs.Ledger.{View, Event, quiet, set_up, wrote, painted, Entry, Ledger, reaches, touched, written, recorded, opened, along, ledger_along}
use Rattle.bar_ledger.specs.Claim.{Agrees, ledger_at}
use Rattle.bar_ledger.specs.Since.{Leaves, LeavesAll, SinceZero}

record Known (e : Entry) : Type 0 where
  so : e.known ≡ true

missed : (f : Region) (e : Entry) → reaches f e.bar ≡ false → e.known ≡ true → (touched f e).known ≡ true
unfolding touched
missed f e t s = rw (s, t)

-- where the ledger's bars are those that are seen
leaves : (e : Event) (k : Ledger) (v : View) (i : ℕ) → ((j : ℕ) → (k j).bar ≡ v.bar j) → Leaves e v i → (k i).known ≡ true → (recorded e k i).known ≡ true
unfolding recorded written
leaves quiet k v i q l s = s
leaves (set_up n b) k v i q l s = rw (ne_eqb i n l) s
leaves (wrote n a) k v i q l s =
    (by_test Known (eqb i n) (written a (k i)) (touched (rectangle_of (k n).bar) (k i)) (λ t. record { so = rw s (or-true (eqb a 0)) })
    (λ t. record { so = missed (rectangle_of (k n).bar) (k i) (rw (q n, q i) (l (eqb-false i n t))) s })).so
leaves (painted f) k v i q l s = missed f (k i) (rw (q i) l) s

zeroed : (k : Ledger) (n : ℕ) → (recorded (wrote n 0) k n).known ≡ true
unfolding recorded written
zeroed k n = rw (eq-eqb n n refl)

module _ {C A : Type 0} (view : C → View) (step : C → A → C) (event : C → A → Event) where
  -- along a list the ledger's bars are those that are seen
  Same : Ledger → C → List A → Type 0
  Same k c l = (n j : ℕ) → (ledger_along step event k c (take n l) j).bar ≡ (view (along step c (take n l))).bar j

  known_all : (c : C) (k : Ledger) (l : List A) (i : ℕ) → Same k c l → LeavesAll view step event c l i → (k i).known ≡ true → (ledger_along step event k c l i).known ≡ true
  unfolding ledger_along along Same
  known_all c k [] i q h s = s
  known_all c k (a ∷ l) i q h s =
      known_all (step c a) (recorded (event c a) k) l i (λ n j. q (suc n) j) h.1 (leaves (event c a) k (view c) i (q 0) h.0 s)

  -- l, then a write of 0 to bar i, then r
  known_since : (c : C) (k : Ledger) (l : List A) (a : A) (r : List A) (i : ℕ) → Same k c (l ++ (a ∷ r)) → event (along step c l) a ≡ wrote i 0
      → LeavesAll view step event (step (along step c l) a) r i → (ledger_along step event k c (l ++ (a ∷ r)) i).known ≡ true
  unfolding ledger_along along Same
  known_since c k [] a r i q e h = known_all (step c a) (recorded (event c a) k) r i (λ n j. q (suc n) j) h (rw e (zeroed k i))
  known_since c k (b ∷ l) a r i q e h = known_since (step c b) (recorded (event c b) k) l a r i (λ n j. q (suc n) j) e h

  -- SO IT IS KNOWN, and the claim says what its rectangle shows
  pub since_zero : (c : C) (l : List A) (i : ℕ) → Agrees view step event c l → SinceZero view step event c l i → (ledger_at view step event c l (length l) i).known ≡ true
  unfolding Same
  since_zero c l i g z =
      rw (take-length l, z.whole)
      (known_since c (opened (view c)) z.before z.zero_write z.since i (rw z.whole at g.same) z.writes z.leaves)
