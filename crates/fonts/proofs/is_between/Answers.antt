use borrow.Author.Rules.{rules}
use Rattle.fonts.proofs.Ways.{between_zero, between_rest}
use Rattle.fonts.proofs.is_between.Goals as goal

pub returns-then-n-ne0 : goal.returns-then-n-ne0
returns-then-n-ne0 c = between_rest _ _ (search rules)

pub returns-else-n-ne0 : goal.returns-else-n-ne0
returns-else-n-ne0 c = between_zero _ _ (search rules)
