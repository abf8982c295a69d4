use borrow.Author.Rules.{rules}
use Rattle.bitmap.proofs.Strips.{strip_start, strip_step}
use Rattle.bitmap.proofs.paint_rows.Goals as goal

pub loop-y-init : goal.loop-y-init
loop-y-init c = strip_start (λ i. (c.type_inv.rows i).fits) (search rules)

pub loop-y-preserved : goal.loop-y-preserved
loop-y-preserved c = rw c.from-k.ensures (strip_step c.loop-y.invariant (search rules) (search rules) (search rules) c.window.ensures c.paint_byte.ensures)
