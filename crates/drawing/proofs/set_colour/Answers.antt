use mathlib.Core.Path.{refl}
use Rattle.drawing.proofs.Laws.{colour_is}
use Rattle.outcome.proofs.Laws.{obeys_done}
use Rattle.drawing.proofs.set_colour.Goals as goal

pub returns : goal.returns
returns c = obeys_done _ c.done.ensures (λ p. refl) (λ h g s p. colour_is _ _ _ c.from.ensures)
