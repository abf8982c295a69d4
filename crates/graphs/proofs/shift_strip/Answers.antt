use mathlib.Core.Path.{refl}
use Rattle.graphs.proofs.Laws.{shift_19, shift_21, shift_done}
use Rattle.outcome.proofs.Laws.{obeys_refused, obeys_done}
use borrow.Author.Rules.{rules}
use Rattle.graphs.proofs.shift_strip.Goals as goal

pub returns-then-from-ge-STRIPS : goal.returns-then-from-ge-STRIPS
returns-then-from-ge-STRIPS c = obeys_refused 19 c.refused.ensures (λ h g s p. refl) (λ h g s p. shift_19 _ _ _ _ _ _ _ c.from.ensures (search rules))

pub returns-then-not-strip : goal.returns-then-not-strip
returns-then-not-strip c = obeys_refused 21 c.refused-then-not-strip.ensures (λ h g s p. refl) (λ h g s p. shift_21 _ _ _ _ _ _ _ c.from.ensures _ c.strip_at-strip.ensures (search rules) (search rules))

pub returns : goal.returns
returns c = obeys_done _ c.done.ensures (λ p. refl) (λ h g s p. shift_done _ _ _ _ _ _ _ c.from.ensures _ c.strip_at-strip.ensures (search rules) _ (search rules) c.shift_strip.ensures)
