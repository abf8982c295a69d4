use Rattle.std.proofs.Common.{refl, ◌∙◌, ap, arith}
use Rattle.outcome.specs.Outcome.{refused_port}
use Rattle.storage.proofs.Laws.{waits_26, waits_on}
use Rattle.outcome.proofs.Laws.{obeys_telling_two, obeys_done, sending_with, done_with}
use Rattle.storage.proofs.upload_waits.Goals as goal

pub returns-then-sum-from : goal.returns-then-sum-from
returns-then-sum-from c = obeys_telling_two 26 254 212 (sending_with (c.refuse.ensures.2 ∙ ap (refused_port c.args.port) c.refuse.ensures.1) c.two_bytes.ensures c.sending.ensures) (λ h g s p. refl) (λ h g s p. waits_26 _ _ _ _ _ _ _ _ _ _ _ _ refl (omega arith))

pub returns : goal.returns
returns c = obeys_done _ (done_with c.in_phase.ensures c.done.ensures) (λ p. refl) (λ h g s p. waits_on _ _ _ _ _ _ _ _ _ _ _ _ (omega arith) (omega arith))
