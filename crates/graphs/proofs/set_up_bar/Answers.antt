use mathlib.Core.Path.{refl}
use Rattle.graphs.proofs.Laws.{bar_19, bar_20, bar_17, bar_18, bar_done}
use Rattle.outcome.proofs.Laws.{obeys_refused, obeys_set}
use borrow.Author.Rules.{rules}
use Rattle.graphs.proofs.set_up_bar.Goals as goal

pub returns-then-from-ge-BARS : goal.returns-then-from-ge-BARS
returns-then-from-ge-BARS c = obeys_refused 19 c.refused.ensures (λ h g s p. refl) (λ h g s p. bar_19 _ _ _ _ _ _ _ _ _ _ _ _ c.from.ensures (search rules))

pub returns-then-kind-ge-TYPES : goal.returns-then-kind-ge-TYPES
returns-then-kind-ge-TYPES c = obeys_refused 20 c.refused-then-kind-ge-TYPES.ensures (λ h g s p. refl) (λ h g s p. bar_20 _ _ _ _ _ _ _ _ _ _ _ _ c.from.ensures (search rules) (search rules))

pub returns-then-not-is_in_bounds : goal.returns-then-not-is_in_bounds
returns-then-not-is_in_bounds c = obeys_refused 17 c.refused-then-not-is_in_bounds.ensures (λ h g s p. refl) (λ h g s p. bar_17 _ _ _ _ _ _ _ _ _ _ _ _ c.from.ensures _ (search rules) (search rules) c.is_in_bounds.ensures (search rules))

pub returns-then-not-is_apart : goal.returns-then-not-is_apart
returns-then-not-is_apart c = obeys_refused 18 c.refused-then-not-is_apart.ensures (λ h g s p. refl) (λ h g s p. bar_18 _ _ _ _ _ _ _ _ _ _ _ _ c.from.ensures _ _ (search rules) (search rules) c.is_in_bounds.ensures (search rules) c.is_apart.ensures (search rules))

pub returns : goal.returns
returns c = obeys_set _ _ c.done.ensures (λ p. c.set_bar.ensures) (λ h g s p. bar_done _ _ _ _ _ _ _ _ _ _ _ _ c.from.ensures _ _ (search rules) (search rules) c.is_in_bounds.ensures (search rules) c.is_apart.ensures (search rules))
