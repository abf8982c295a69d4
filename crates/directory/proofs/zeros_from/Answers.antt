use borrow.Author.Rules.{rules}
use Rattle.directory.proofs.Walks.{zeroing_end, zeroing_more}
use Rattle.directory.proofs.zeros_from.Goals as goal

pub loop-p-preserved : goal.loop-p-preserved
loop-p-preserved c = zeroing_more _ _ _ _ c.loop-p.invariant (search rules)

pub returns : goal.returns
returns c = zeroing_end _ _ _ _ c.loop-p.invariant (search rules)
