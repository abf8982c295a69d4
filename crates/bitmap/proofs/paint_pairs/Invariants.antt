use Prim.Native.Nat.{◌-◌, ◌*◌}
use Rattle.bitmap.proofs.Strips.{PairsPainted}
use Rattle.bitmap.proofs.paint_pairs.Given as goal

abbrev pub invariant-loop-at : goal.invariant-loop-at
invariant-loop-at l = PairsPainted l.x1 l.x2 l.n l.w l.first l.at l.k l.bits l.initial.rows l.rows

abbrev pub decreases-loop-at : goal.decreases-loop-at
decreases-loop-at l = 30 * l.n - l.at
