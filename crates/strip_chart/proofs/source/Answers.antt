use borrow.Author.Rules.{rules}
use Rattle.strip_chart.specs.Strips.{source}
use Rattle.strip_chart.proofs.source.Goals as goal

pub returns-then-right : goal.returns-then-right
unfolding source
returns-then-right c = search rules

pub returns-else-right : goal.returns-else-right
unfolding source
returns-else-right c = search rules
