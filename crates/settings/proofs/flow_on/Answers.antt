use mathlib.Core.Path.{refl}
use Rattle.settings.proofs.Laws.{flow_refused_lem, flow_on_is}
use Rattle.outcome.proofs.Laws.{obeys_refused, obeys_done}
use borrow.Author.Rules.{rules}
use Rattle.settings.proofs.flow_on.Goals as goal

pub returns-then-from-ge-SIZE : goal.returns-then-from-ge-SIZE
returns-then-from-ge-SIZE c = obeys_refused 27 c.refused.ensures (λ h g s p. refl) (λ h g s p. flow_refused_lem _ _ _ _ _ c.from.ensures c.from-2.ensures (search rules))

pub returns : goal.returns
returns c = obeys_done _ c.done.ensures (λ p. refl) (λ h g s p. flow_on_is _ _ _ _ _ c.from.ensures c.from-2.ensures (search rules))
