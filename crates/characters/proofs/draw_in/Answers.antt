use mathlib.Core.Path.{refl}
use Rattle.characters.proofs.Places.{draw_lacked, draw_there}
use Rattle.outcome.proofs.Laws.{obeys_as}
use Rattle.characters.proofs.draw_in.Goals as goal

pub returns-in-None : goal.returns-in-None
returns-in-None c = obeys_as c.draw_missing.ensures (λ h g s p. refl) (λ h g s p. draw_lacked _ _ _ _ c.glyph_of.ensures _ _ c.in-None.is c.nominal_width.ensures c.height.ensures)

pub returns-in-Some : goal.returns-in-Some
returns-in-Some c = obeys_as c.draw_glyph.ensures (λ h g s p. refl) (λ h g s p. draw_there _ _ _ _ c.glyph_of.ensures _ _ c.in-Some.is c.rest.ensures)
