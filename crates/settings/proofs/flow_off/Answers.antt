use mathlib.Core.Path.{refl}
use Rattle.settings.proofs.Laws.{flow_off_is}
use Rattle.outcome.proofs.Laws.{obeys_done}
use Rattle.settings.proofs.flow_off.Goals as goal

pub returns : goal.returns
returns c = obeys_done _ c.done.ensures (λ p. refl) (λ h g s p. flow_off_is _)
