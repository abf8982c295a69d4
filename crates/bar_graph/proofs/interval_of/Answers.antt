use borrow.Author.Rules.{rules}
use Rattle.bar_graph.specs.Axis.{interval_of}
use Rattle.bar_graph.proofs.interval_of.Goals as goal

pub returns-then-far : goal.returns-then-far
unfolding interval_of
returns-then-far c = search rules

pub returns : goal.returns
unfolding interval_of
returns c = search rules
