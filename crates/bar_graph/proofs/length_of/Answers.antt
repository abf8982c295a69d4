use borrow.Author.Rules.{rules}
use Rattle.bar_graph.specs.Bars.{length_of}
use Rattle.bar_graph.proofs.length_of.Goals as goal

pub returns-then-is_vertical : goal.returns-then-is_vertical
unfolding length_of
returns-then-is_vertical c = search rules

pub returns : goal.returns
unfolding length_of
returns c = search rules
