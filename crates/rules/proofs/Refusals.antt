-- DEMAND 1, for commands: a refusal alters no pixel, no byte of the store, and of the state only the phase with what it gathered, the refusal count
-- and the last refusal.
-- Assumes nothing.
use mathlib.Core.Path.{◌≡◌, refl}
use mathlib.Core.List.{List}
use Prim.Native.Nat.{ℕ}
use Rattle.rules.specs.World.{World, refused}
use Rattle.rules.specs.Step.{Input, outcome, refuse, after, step, replies}
use Rattle.rules.specs.Refused.{Unaltered}

pub refuse_alters : (w : World) (n : ℕ) → Unaltered w (refuse w n) n
unfolding refuse
refuse_alters w n =
    record {
      framebuffer = refl;
      store = refl;
      config = refl;
      panel_same = refl;
      text = refl;
      drawing = refl;
      flow = refl;
      ended = refl;
      cleared = refl;
      counted = refl;
      last = refl;
    }

pub refused_step : (w : World) (i : Input) (n : ℕ) (r : List ℕ) → outcome w i ≡ refused n r → step w i ≡ refuse w n
unfolding step after
refused_step w i n r e = rw e

pub demand_1 : (w : World) (i : Input) (n : ℕ) (r : List ℕ) → outcome w i ≡ refused n r → Unaltered w (step w i) n
demand_1 w i n r e = rw (refused_step w i n r e) (refuse_alters w n)

pub refused_replies : (w : World) (i : Input) (n : ℕ) (r : List ℕ) → outcome w i ≡ refused n r → replies w i ≡ r
unfolding replies
refused_replies w i n r e = rw e
