use mathlib.Core.Path.{refl}
use Rattle.drawing.proofs.Laws.{line_is}
use Rattle.outcome.proofs.Laws.{obeys_done}
use Rattle.drawing.proofs.draw_line.Goals as goal

pub returns : goal.returns
returns c = obeys_done _ c.done.ensures (λ p. refl) (λ h g s p. line_is _ _ _ _ _ _ _ _ c.draw_line.ensures)
