use Rattle.bitmap.proofs.Strips.{StripsPainted}
use Rattle.bitmap.proofs.paint_strips.Given as goal

abbrev pub invariant-loop-left : goal.invariant-loop-left
invariant-loop-left l = StripsPainted l.x l.right l.n l.w l.left l.bits l.initial.rows l.rows
