use Prim.Native.Nat.{◌-◌}
use lib.ListN.{drop}
use Rattle.files.proofs.Moves.{Pasting}
use Rattle.files.proofs.slide.Given as goal

abbrev pub invariant-loop-i : goal.invariant-loop-i
invariant-loop-i l = Pasting l.initial.s l.s (drop l.from l.initial.s) l.to l.n l.i

abbrev pub decreases-loop-i : goal.decreases-loop-i
decreases-loop-i l = l.n - l.i
