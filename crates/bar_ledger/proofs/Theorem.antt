-- THE THEOREM over every list of inputs, for any machine whose every step obeys its event.
-- Assumes nothing.
use mathlib.Core.Path.{refl}
use mathlib.Core.Bool.{true, false≢true}
use mathlib.Core.List.{List, [], ◌∷◌}
use Prim.Native.Nat.{ℕ}
use lib.ListN.{take}
use Rattle.bar_graph.proofs.Writes.{write_changes}
use Rattle.bar_ledger.specs.Ledger.{View, Event, wrote, Ledger, recorded, opened, along, ledger_along}
use Rattle.bar_ledger.specs.Claim.{Shown, Thrifty, Agrees}
use Rattle.bar_ledger.proofs.Keep.{Obeys, Paints, keeps, keeps_out, Holds}

shown_holds : (v : View) (k : Ledger) → Holds v k → Shown v k
shown_holds v k h = record { bars = λ i s. (h i).shows s }

thrifty_obeys : (e : Event) (k : Ledger) (v w : View) → Obeys e v w → Holds v k → Thrifty e k v w
thrifty_obeys e k v w o h =
    record {
      pixels = λ n a x y q z on d. let p : Paints (wrote n a) v w = rw q at o.paints in
          rw (h n).same (write_changes (v.bar n) a v.framebuffer x y z on (rw p at d));
    }

opened_holds : (v : View) → Holds v (opened v)
opened_holds v i = record { same = refl; shows = λ u. absurd (false≢true u) }

module _ {C A : Type 0} (step : C → A → C) (Good : C → Type 0) (good : (c : C) (a : A) → Good c → Good (step c a)) where
  pub good_along : (c : C) (l : List A) → Good c → Good (along step c l)
  unfolding along
  good_along c [] g = g
  good_along c (a ∷ l) g = good_along (step c a) l (good c a g)

module _ {C A : Type 0} (view : C → View) (step : C → A → C) (event : C → A → Event) (Good : C → Type 0)
    (good : (c : C) (a : A) → Good c → Good (step c a))
    (obeys : (c : C) (a : A) → Good c → Obeys (event c a) (view c) (view (step c a))) where
  holds_along : (c : C) (k : Ledger) (l : List A) → Good c → Holds (view c) k → Holds (view (along step c l)) (ledger_along step event k c l)
  unfolding along ledger_along
  holds_along c k [] g h = h
  holds_along c k (a ∷ l) g h =
      holds_along (step c a) (recorded (event c a) k) l (good c a g) (keeps (event c a) (view c) (view (step c a)) k (obeys c a g) h)

  pub agrees : (c : C) → Good c → (l : List A) → Agrees view step event c l
  agrees c g l =
      record {
        same = λ n i. (at n i).same;
        shown = λ n. shown_holds _ _ (at n);
        thrifty = λ n a r e. thrifty_obeys _ _ _ _ (obeys _ a (good_along step Good good c (take n l) g)) (at n);
        inside = λ n a r e. keeps_out _ _ _ (obeys _ a (good_along step Good good c (take n l) g));
      }
    where
      at : (n : ℕ) → Holds (view (along step c (take n l))) (ledger_along step event (opened (view c)) c (take n l))
      at n = holds_along c (opened (view c)) (take n l) g (opened_holds (view c))
