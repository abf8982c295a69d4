use mathlib.Core.Path.{◌∙◌, refl}
use Rattle.pictures.proofs.Laws.{bitmap_done}
use Rattle.outcome.proofs.Laws.{obeys_refused, obeys_done}
use Rattle.pictures.proofs.show_bitmap.Goals as goal

pub returns-in-Err : goal.returns-in-Err
returns-in-Err c = obeys_refused _ c.refused.ensures (λ h g s p. refl) (λ h g s p. c.in-Err.ensures.refused _ _ _ refl)

pub returns : goal.returns
returns c =
    obeys_done _ c.done.ensures (λ p. refl)
    (λ h g s p. c.in-Ok.ensures.found.1 _ _ _ refl ∙ bitmap_done _ _ _ _ _ _ _ _ _ _ c.in-Ok.ensures.found.0 c.rest-bits.ensures c.bitmap_width.ensures c.bitmap_height.ensures (rw c.from.ensures at c.paint_packed.ensures))
