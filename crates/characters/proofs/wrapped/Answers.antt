use Rattle.characters.proofs.Places.{wrap_here, wrap_nowhere, wrap_below, wrap_up, wrap_top}
use borrow.Author.Rules.{rules}
use Rattle.characters.proofs.wrapped.Goals as goal

pub returns-then-from : goal.returns-then-from
returns-then-from c = wrap_here _ _ _ _ _ _ (search rules) (search rules) (search rules) (search rules)

pub returns-then-not-text : goal.returns-then-not-text
returns-then-not-text c = wrap_nowhere _ _ _ 0 0 0 (search rules) (search rules)

pub returns-then-below-from : goal.returns-then-below-from
returns-then-below-from c = wrap_below _ _ _ _ _ _ (search rules) (search rules) (search rules) (search rules) (search rules) (search rules)

pub returns-then-text : goal.returns-then-text
returns-then-text c = wrap_up _ _ _ _ _ _ (search rules) (search rules) (search rules) (search rules) (search rules) (search rules) (search rules)

pub returns : goal.returns
returns c = wrap_top _ _ _ _ _ _ (search rules) (search rules) (search rules) (search rules) (search rules) (search rules) (search rules)
