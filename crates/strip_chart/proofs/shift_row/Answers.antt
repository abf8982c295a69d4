use borrow.Author.Rules.{rules}
use Rattle.strip_chart.proofs.Walk.{shift_start, shift_asks, shift_part, shift_nearer, shift_step, shift_end}
use Rattle.strip_chart.proofs.shift_row.Goals as goal

pub loop-x-init : goal.loop-x-init
loop-x-init c = shift_start (λ i. (c.type_inv.rows i).fits) (search rules) c.entering-x.ensures

pub part_of-part-requires : goal.part_of-part-requires
part_of-part-requires c = shift_asks c.loop-x.invariant c.entering-end.ensures (search rules)

pub source-requires : goal.source-requires
source-requires c = (shift_part c.loop-x.invariant c.entering-end.ensures (search rules) (search rules) c.part_of-part.ensures).asks

pub beyond-x-requires : goal.beyond-x-requires
beyond-x-requires c = (shift_part c.loop-x.invariant c.entering-end.ensures (search rules) (search rules) c.part_of-part.ensures).asks.1

pub loop-x-smaller : goal.loop-x-smaller
loop-x-smaller c = shift_nearer c.loop-x.invariant c.entering-end.ensures (shift_part c.loop-x.invariant c.entering-end.ensures (search rules) (search rules) c.part_of-part.ensures) c.beyond-x.ensures

pub loop-x-preserved : goal.loop-x-preserved
loop-x-preserved c = shift_step c.loop-x.invariant c.entering-end.ensures (shift_part c.loop-x.invariant c.entering-end.ensures (search rules) (search rules) c.part_of-part.ensures) c.beyond-x.ensures c.source.ensures (rw (c.from.ensures, c.from-2.ensures, c.from-in-loop-x.ensures) at c.window-bits.ensures) c.paint_cell.ensures

pub returns : goal.returns
returns c = shift_end c.loop-x.invariant c.entering-end.ensures (search rules) (search rules) c.plot.ensures
