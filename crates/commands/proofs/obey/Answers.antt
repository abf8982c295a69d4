use mathlib.Core.Path.{refl}
use Rattle.outcome.proofs.Laws.{obeys_refused}
use Rattle.rules.specs.Step.{obey}
use Rattle.commands.proofs.obey.Goals as goal

pub returns-in-Unknown : goal.returns-in-Unknown
unfolding obey
returns-in-Unknown c = obeys_refused 16 c.refused.ensures (λ h g s p. refl) (λ h g s p. rw c.in-Unknown.is)
