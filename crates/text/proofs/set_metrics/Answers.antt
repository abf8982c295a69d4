use Rattle.outcome.proofs.Laws.{obeys_done, done_with}
use mathlib.Core.Path.{refl}
use Rattle.text.proofs.set_metrics.Goals as goal

pub returns : goal.returns
returns c = obeys_done _ (done_with c.put_text.ensures c.done.ensures) (λ p. refl) (λ h g s p. refl)
