use borrow.Author.Rules.{rules}
use Rattle.strip_chart.specs.Strips.{entering}
use Rattle.strip_chart.proofs.entering.Goals as goal

pub returns-then-right : goal.returns-then-right
unfolding entering
returns-then-right c = search rules

pub returns-else-right : goal.returns-else-right
unfolding entering
returns-else-right c = search rules
