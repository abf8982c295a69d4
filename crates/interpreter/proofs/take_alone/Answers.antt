use mathlib.Core.Path.{refl}
use Rattle.interpreter.proofs.Phases.{alone_prefix, alone_character}
use Rattle.outcome.proofs.Laws.{obeys_done, obeys_as, done_with}
use borrow.Author.Rules.{rules}
use Rattle.interpreter.proofs.take_alone.Goals as goal

pub returns-then-byte-eq-PREFIX : goal.returns-then-byte-eq-PREFIX
returns-then-byte-eq-PREFIX c = obeys_done _ (done_with c.in_phase.ensures c.done.ensures) (λ p. refl) (λ h g s p. alone_prefix _ _ _ _ (search rules))

pub returns : goal.returns
returns c = obeys_as c.draw_character.ensures (λ h g s p. refl) (λ h g s p. alone_character _ _ (search rules))
