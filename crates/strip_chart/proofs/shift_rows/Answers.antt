use borrow.Author.Rules.{rules}
use Rattle.pixels.proofs.Growth.{rows_start, rows_end_lem}
use Rattle.strip_chart.proofs.Walk.{shift_row_step}
use Rattle.strip_chart.proofs.shift_rows.Goals as goal

pub loop-y-init : goal.loop-y-init
loop-y-init c = rows_start (λ i. (c.type_inv.rows i).fits)

pub loop-y-preserved : goal.loop-y-preserved
loop-y-preserved c = shift_row_step c.args.right c.args.x2 c.loop-y.invariant (search rules) c.shift_row.ensures

pub returns : goal.returns
returns c = rows_end_lem c.loop-y.invariant (search rules)
