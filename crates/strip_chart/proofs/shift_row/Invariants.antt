use Rattle.strip_chart.proofs.Walk.{apart, Shifting}
use Rattle.strip_chart.proofs.shift_row.Given as goal

abbrev pub invariant-loop-x : goal.invariant-loop-x
invariant-loop-x l = Shifting l.right l.x1 l.x2 l.y l.x l.initial.rows l.rows

abbrev pub decreases-loop-x : goal.decreases-loop-x
decreases-loop-x l = apart l.x l.end
