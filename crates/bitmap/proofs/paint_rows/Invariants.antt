use Rattle.bitmap.proofs.Strips.{StripPainted}
use Rattle.bitmap.proofs.paint_rows.Given as goal

abbrev pub invariant-loop-y : goal.invariant-loop-y
invariant-loop-y l = StripPainted l.x1 l.x2 l.y1 l.n l.w l.first l.y l.k l.bits l.initial.rows l.rows
