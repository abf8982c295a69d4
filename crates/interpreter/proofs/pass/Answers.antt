use mathlib.Core.Path.{refl}
use Rattle.interpreter.proofs.Phases.{time_calm}
use Rattle.outcome.proofs.Laws.{obeys_done}
use Rattle.interpreter.proofs.pass.Goals as goal

pub returns-in_default : goal.returns-in_default
returns-in_default c = obeys_done _ c.done.ensures (λ p. refl) (λ h g s p. time_calm _ _ c.in_default.not-Upload)
