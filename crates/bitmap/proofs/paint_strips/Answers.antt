use borrow.Author.Rules.{rules}
use Rattle.bitmap.proofs.Strips.{strips_start, strips_step, strips_end}
use Rattle.bitmap.proofs.paint_strips.Goals as goal

pub loop-left-init : goal.loop-left-init
loop-left-init c = strips_start (λ i. (c.type_inv.rows i).fits)

pub loop-left-preserved : goal.loop-left-preserved
loop-left-preserved c = strips_step c.loop-left.invariant (search rules) c.min-end.ensures (rw c.from.ensures at c.paint_strip.ensures)

pub returns-2 : goal.returns-2
returns-2 c = strips_end (strips_step c.loop-left.invariant (search rules) c.min-end.ensures (rw c.from.ensures at c.paint_strip.ensures)) (search rules)

pub returns : goal.returns
returns c = strips_end c.loop-left.invariant (search rules)
