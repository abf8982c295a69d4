use borrow.Author.Rules.{rules}
use Rattle.bar_graph.specs.Bars.{write_of}
use Rattle.bar_graph.proofs.paint_write.Goals as goal

pub returns-then-value-eq0 : goal.returns-then-value-eq0
unfolding write_of
returns-then-value-eq0 c = search rules

pub returns-then-old-new : goal.returns-then-old-new
unfolding write_of
returns-then-old-new c = search rules

pub returns : goal.returns
unfolding write_of
returns c = search rules
