use mathlib.Core.Path.{refl}
use Rattle.pictures.proofs.Laws.{data_more, data_last}
use Rattle.outcome.proofs.Laws.{obeys_done, done_with}
use borrow.Author.Rules.{rules}
use Rattle.pictures.proofs.inline_data.Goals as goal

pub returns-then-from : goal.returns-then-from
returns-then-from c = obeys_done _ (done_with c.in_phase.ensures c.done.ensures) (λ p. refl) (λ h g s p. data_more _ _ _ _ _ _ _ _ _ _ _ c.paint_inline.ensures c.inline_bytes-all.ensures (search rules))

pub returns : goal.returns
returns c = obeys_done _ (done_with c.in_phase-2.ensures c.done-2.ensures) (λ p. refl) (λ h g s p. data_last _ _ _ _ _ _ _ _ _ _ _ c.paint_inline.ensures c.inline_bytes-all.ensures (search rules))
