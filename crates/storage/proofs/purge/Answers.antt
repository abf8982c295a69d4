use Rattle.std.proofs.Common.{refl, rules}
use Rattle.storage.proofs.Laws.{purge_20, purge_done}
use Rattle.outcome.proofs.Laws.{obeys_refused, obeys_set, done_with, put_with}
use Rattle.storage.proofs.purge.Goals as goal

pub returns-then-first-ne-PURGE_FIRST : goal.returns-then-first-ne-PURGE_FIRST
returns-then-first-ne-PURGE_FIRST c = obeys_refused 20 c.refused.ensures (λ h g s p. refl) (λ h g s p. purge_20 _ _ _ _ _ c.then-first-ne-PURGE_FIRST.either)

pub returns : goal.returns
returns c = obeys_set _ _ (done_with (put_with c.args.port c.start_text.ensures c.put_text.ensures) c.done.ensures) (λ p. c.set_used.ensures) (λ h g s p. purge_done _ _ _ _ _ _ (search rules) (search rules) c.purge.ensures)
