use Prim.Native.Nat.{◌-◌}
use Rattle.record.proofs.Copies.{Copying}
use Rattle.record.proofs.writing.copy_bytes.Given as goal

abbrev pub invariant-loop-i : goal.invariant-loop-i
invariant-loop-i l = Copying l.initial.to l.to l.from l.n l.i

abbrev pub decreases-loop-i : goal.decreases-loop-i
decreases-loop-i l = l.n - l.i
