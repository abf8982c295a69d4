use mathlib.Core.Path.{refl}
use Rattle.drawing.proofs.Laws.{clear_is}
use Rattle.outcome.proofs.Laws.{obeys_done, done_with}
use Rattle.drawing.proofs.clear.Goals as goal

pub returns : goal.returns
returns c = obeys_done _ (done_with (rw c.from.ensures at c.put_text.ensures) c.done.ensures) (λ p. refl) (λ h g s p. clear_is _ _ _ _ c.clear.ensures)
