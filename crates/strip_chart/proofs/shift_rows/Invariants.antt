use Prim.Native.Nat.{◌+◌}
use Rattle.pixels.proofs.Growth.{RowsPainted}
use Rattle.strip_chart.specs.Strips.{shifted}
use Rattle.strip_chart.proofs.shift_rows.Given as goal

abbrev pub invariant-loop-y : goal.invariant-loop-y
invariant-loop-y l = RowsPainted l.x1 (l.x2 + 1) l.n l.y (shifted l.right l.x1 l.x2 l.initial.rows) l.initial.rows l.rows
