use Rattle.rectangle.proofs.Rows.{column_first, column_next, column_all}
use borrow.Author.Rules.{rules}
use Rattle.rectangle.proofs.fill_byte_column.Goals as goal

pub loop-y-init : goal.loop-y-init
loop-y-init c = column_first (λ i. (c.type_inv.rows i).fits)

pub loop-y-preserved : goal.loop-y-preserved
loop-y-preserved c = column_next _ (search rules) c.loop-y.invariant c.stamp_inside.ensures

pub returns : goal.returns
returns c = column_all c.loop-y.invariant (search rules)
