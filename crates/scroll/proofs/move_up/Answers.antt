use borrow.Author.Rules.{rules}
use Rattle.scroll.proofs.Bytes.{moving_none, moving_more, moving_all}
use Rattle.scroll.proofs.move_up.Goals as goal

pub loop-i-init : goal.loop-i-init
loop-i-init c = moving_none _

pub loop-i-preserved : goal.loop-i-preserved
loop-i-preserved c = moving_more c.loop-i.invariant (search rules) (search rules)

pub returns : goal.returns
returns c = moving_all c.loop-i.invariant (search rules)
