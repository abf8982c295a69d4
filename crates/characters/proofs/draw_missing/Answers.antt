use mathlib.Core.Path.{refl}
use Rattle.characters.proofs.Places.{missing_ignored, missing_boxed}
use Rattle.outcome.proofs.Laws.{obeys_done, obeys_as}
use borrow.Author.Rules.{rules}
use Rattle.characters.proofs.draw_missing.Goals as goal

pub returns-then-is_ignored : goal.returns-then-is_ignored
returns-then-is_ignored c = obeys_done _ c.done.ensures (λ p. refl) (λ h g s p. missing_ignored _ _ _ _ _ c.is_ignored.ensures (search rules))

pub returns : goal.returns
returns c = obeys_as c.draw_box.ensures (λ h g s p. refl) (λ h g s p. missing_boxed _ _ _ _ _ c.is_ignored.ensures (search rules))
