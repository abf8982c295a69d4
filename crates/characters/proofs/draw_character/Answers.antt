use mathlib.Core.Path.{refl, ap, ◌∙◌}
use Rattle.std.specs.Prelude.{Ok}
use Rattle.text.proofs.Laws.{from_built_in, from_stored, from_refused}
use Rattle.characters.proofs.Places.{character_shut, character_opened}
use Rattle.outcome.proofs.Laws.{obeys_refused, obeys_as}
use Rattle.characters.proofs.draw_character.Goals as goal

pub returns-in-Ok-BuiltIn : goal.returns-in-Ok-BuiltIn
returns-in-Ok-BuiltIn c = obeys_as c.draw_built_in.ensures (λ h g s p. refl) (λ h g s p. character_opened _ _ _ _ _ (from_built_in _ _ _ _ c.find_font.ensures _ (c.in-Ok-BuiltIn.is ∙ ap Ok c.in-Ok-BuiltIn.field-0-is) refl))

pub returns-in-Ok-Stored : goal.returns-in-Ok-Stored
returns-in-Ok-Stored c = obeys_as c.draw_in.ensures (λ h g s p. refl) (λ h g s p. character_opened _ _ _ _ _ (from_stored _ _ _ _ c.find_font.ensures _ _ _ (c.in-Ok-Stored.is ∙ ap Ok c.in-Ok-Stored.field-0-is) c.part.ensures))

pub returns-in-Err : goal.returns-in-Err
returns-in-Err c = obeys_refused _ c.refused_in_line.ensures (λ h g s p. refl) (λ h g s p. character_shut _ _ _ _ _ (from_refused _ _ _ _ c.find_font.ensures _ c.in-Err.is))
