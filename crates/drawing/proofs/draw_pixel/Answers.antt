use mathlib.Core.Path.{refl}
use Rattle.drawing.proofs.Laws.{pixel_is}
use Rattle.outcome.proofs.Laws.{obeys_done}
use Rattle.drawing.proofs.draw_pixel.Goals as goal

pub returns : goal.returns
returns c = obeys_done _ c.done.ensures (λ p. refl) (λ h g s p. pixel_is _ _ _ _ _ _ (rw (c.from.ensures, c.from-2.ensures) at c.plot.ensures))
