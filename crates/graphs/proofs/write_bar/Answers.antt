use native.Mathlib.Omega.{arith}
use mathlib.Core.Path.{refl}
use Rattle.graphs.proofs.Laws.{write_19, write_21, write_done}
use Rattle.outcome.proofs.Laws.{obeys_refused, obeys_set}
use borrow.Author.Rules.{rules}
use Rattle.graphs.proofs.write_bar.Goals as goal

pub returns-then-from-ge-BARS : goal.returns-then-from-ge-BARS
returns-then-from-ge-BARS c = obeys_refused 19 c.refused.ensures (λ h g s p. refl) (λ h g s p. write_19 _ _ _ _ _ _ _ _ c.from.ensures (search rules))

pub returns-then-not-slot : goal.returns-then-not-slot
returns-then-not-slot c = obeys_refused 21 c.refused-then-not-slot.ensures (λ h g s p. refl) (λ h g s p. write_21 _ _ _ _ _ _ _ _ c.from.ensures _ c.bar_at-slot.ensures (search rules) (search rules))

pub returns : goal.returns
returns c = obeys_set _ _ c.done.ensures (λ p. c.set_bar.ensures) (λ h g s p. write_done _ _ _ _ _ _ _ _ c.from.ensures _ c.bar_at-slot.ensures (omega (arith, c.if-from-ge-BARS.false)) _ _ (search rules) c.write_bar-written.ensures.0 c.write_bar-written.ensures.1)
