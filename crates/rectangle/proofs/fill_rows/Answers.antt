use Rattle.pixels.proofs.Growth.{columns_start, columns_step, columns_end}
use borrow.Author.Rules.{rules}
use Rattle.rectangle.proofs.fill_rows.Goals as goal

pub loop-y-init : goal.loop-y-init
loop-y-init g c = columns_start (λ i. (c.type_inv.rows i).fits)

pub loop-y-preserved : goal.loop-y-preserved
loop-y-preserved g c = columns_step c.loop-y.invariant c.fill_row.ensures

pub returns : goal.returns
returns g c = columns_end c.loop-y.invariant (search rules)
