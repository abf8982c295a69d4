use mathlib.Core.Path.{refl}
use Rattle.characters.proofs.Places.{built_in_lacked, built_in_there}
use Rattle.outcome.proofs.Laws.{obeys_as}
use borrow.Author.Rules.{rules}
use Rattle.characters.proofs.draw_built_in.Goals as goal

pub returns-then-contains : goal.returns-then-contains
returns-then-contains c = obeys_as c.draw_glyph.ensures (λ h g s p. refl) (λ h g s p. built_in_there _ _ c.contains.result _ (search rules) (search rules) c.rows-rows.ensures)

pub returns : goal.returns
returns c = obeys_as c.draw_missing.ensures (λ h g s p. refl) (λ h g s p. built_in_lacked _ _ c.contains.result (search rules) (search rules))
