use borrow.Author.Rules.{rules}
use Rattle.strip_chart.specs.Walk.{beyond}
use Rattle.strip_chart.proofs.beyond.Goals as goal

pub returns-then-right : goal.returns-then-right
unfolding beyond
returns-then-right c = search rules

pub returns-else-right : goal.returns-else-right
unfolding beyond
returns-else-right c = search rules
