use mathlib.Core.Path.{refl}
use Rattle.pictures.proofs.Laws.{inline_18, inline_done}
use Rattle.outcome.proofs.Laws.{obeys_refused, obeys_done, done_with}
use borrow.Author.Rules.{rules}
use Rattle.pictures.proofs.begin_inline.Goals as goal

pub returns-then-not-is_ordered : goal.returns-then-not-is_ordered
returns-then-not-is_ordered c = obeys_refused 18 c.refused.ensures (λ h g s p. refl) (λ h g s p. inline_18 _ _ _ _ _ _ c.is_ordered.ensures (search rules))

pub returns : goal.returns
returns c = obeys_done _ (done_with c.in_phase.ensures c.done.ensures) (λ p. refl) (λ h g s p. inline_done _ _ _ _ _ _ _ _ c.is_ordered.ensures (search rules))
