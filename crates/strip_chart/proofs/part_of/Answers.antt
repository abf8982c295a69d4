use borrow.Author.Rules.{rules}
use Rattle.strip_chart.specs.Walk.{part_of}
use Rattle.strip_chart.proofs.part_of.Goals as goal

pub returns-then-right : goal.returns-then-right
unfolding part_of
returns-then-right c = search rules

pub returns-else-right : goal.returns-else-right
unfolding part_of
returns-else-right c = search rules
