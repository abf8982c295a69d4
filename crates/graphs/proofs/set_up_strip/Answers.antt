use mathlib.Core.Path.{refl}
use Rattle.graphs.proofs.Laws.{strip_19, strip_17, strip_18, strip_done}
use Rattle.outcome.proofs.Laws.{obeys_refused, obeys_set}
use borrow.Author.Rules.{rules}
use Rattle.graphs.proofs.set_up_strip.Goals as goal

pub returns-then-from-ge-STRIPS : goal.returns-then-from-ge-STRIPS
returns-then-from-ge-STRIPS c = obeys_refused 19 c.refused.ensures (λ h g s p. refl) (λ h g s p. strip_19 _ _ _ _ _ _ _ 0 _ _ _ _ c.from.ensures (search rules))

pub returns-then-not-is_in_bounds : goal.returns-then-not-is_in_bounds
returns-then-not-is_in_bounds c = obeys_refused 17 c.refused-then-not-is_in_bounds.ensures (λ h g s p. refl) (λ h g s p. strip_17 _ _ _ _ _ _ _ 0 _ _ _ _ c.from.ensures _ (search rules) c.is_in_bounds.ensures (search rules))

pub returns-then-not-is_apart : goal.returns-then-not-is_apart
returns-then-not-is_apart c = obeys_refused 18 c.refused-then-not-is_apart.ensures (λ h g s p. refl) (λ h g s p. strip_18 _ _ _ _ _ _ _ 0 _ _ _ _ c.from.ensures _ _ (search rules) c.is_in_bounds.ensures (search rules) c.is_apart.ensures (search rules))

pub returns : goal.returns
returns c = obeys_set _ _ c.done.ensures (λ p. c.set_strip.ensures) (λ h g s p. strip_done _ _ _ _ _ _ _ 0 _ _ _ _ c.from.ensures _ _ (search rules) c.is_in_bounds.ensures (search rules) c.is_apart.ensures (search rules))
