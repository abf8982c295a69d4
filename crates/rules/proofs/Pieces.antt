-- How far a piece goes: as far as there are two free reply bytes before the next input, and no less.
-- Assumes nothing.
use mathlib.Core.Path.{subst}
use mathlib.Core.List.{List, [], ◌∷◌}
use Prim.Native.Nat.{ℕ, suc, ◌-◌, ◌≤◌}
use native.Mathlib.Omega.{arith}
use lib.Dec.{ltb}
use lib.ListN.{length, take, length-append}
use borrow.Author.Tests.{ltb-true, ltb-false}
use Rattle.pixels.proofs.Tests.{by_test}
use Rattle.rules.specs.World.{World}
use Rattle.rules.specs.Step.{Input, step, replies}
use Rattle.rules.specs.Calls.{said, taken}
use Rattle.rules.specs.Chunks.{Enough, GoesTo}
use Rattle.rules.proofs.Replies.{succ}

one_more : (w : World) (room : ℕ) (i : Input) (l : List Input) (n : ℕ) → 2 ≤ room → GoesTo (step w i) (room - length (replies w i)) l n → GoesTo w room (i ∷ l) (suc n)
unfolding Enough said
one_more w room i l n h g =
    record {
      enough = (h, g.enough);
      most = omega (arith, g.most);
      stops = λ t. rw (length-append (replies w i) (said (step w i) (take n l))) (omega (arith, g.stops (omega (arith, t))));
    }

pub taken_goes : (w : World) (room : ℕ) (l : List Input) → GoesTo w room l (taken w room l)
unfolding taken Enough said
taken_goes w room [] = record { enough = tt; most = omega arith; stops = λ t. omega (arith, t) }
taken_goes w room (i ∷ l) =
    by_test (GoesTo w room (i ∷ l)) (ltb room 2) _ _ (λ e. record { enough = tt; most = omega arith; stops = λ _. omega (arith, ltb-true room 2 e) })
    (λ e. subst (GoesTo w room (i ∷ l)) (succ _) (one_more w room i l _ (ltb-false room 2 e) (taken_goes (step w i) (room - length (replies w i)) l)))
