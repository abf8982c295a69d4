use mathlib.Core.Path.{refl}
use Rattle.drawing.proofs.Laws.{frame_refused, frame_is}
use Rattle.outcome.proofs.Laws.{obeys_refused, obeys_done}
use borrow.Author.Rules.{rules}
use Rattle.drawing.proofs.draw_frame.Goals as goal

pub returns-then-not-is_ordered : goal.returns-then-not-is_ordered
returns-then-not-is_ordered c = obeys_refused 18 c.refused.ensures (λ h g s p. refl) (λ h g s p. frame_refused _ _ _ _ _ _ _ c.is_ordered.ensures (search rules))

pub returns : goal.returns
returns c = obeys_done _ c.done.ensures (λ p. refl) (λ h g s p. frame_is _ _ _ _ _ _ _ _ _ _ _ c.is_ordered.ensures (search rules) c.from.ensures c.draw_frame.ensures)
