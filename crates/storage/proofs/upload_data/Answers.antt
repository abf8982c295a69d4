use Rattle.std.proofs.Common.{refl, rules}
use Rattle.storage.proofs.Laws.{data_echoed, data_26, data_more, data_last}
use Rattle.outcome.proofs.Laws.{obeys_refused, obeys_one, obeys_done, obeys_set, sending_with, done_with}
use Rattle.storage.proofs.upload_data.Goals as goal

pub returns-then-not-waiting : goal.returns-then-not-waiting
returns-then-not-waiting c = obeys_one _ _ (sending_with c.in_phase-next.ensures c.one_byte.ensures c.sending.ensures) (λ p. refl) (λ h g s p. data_echoed _ _ _ _ _ _ _ _ _ _ (search rules))

pub returns-then-byte-ne-CONFIRM : goal.returns-then-byte-ne-CONFIRM
returns-then-byte-ne-CONFIRM c = obeys_refused 26 c.refused_in_line.ensures (λ h g s p. refl) (λ h g s p. data_26 _ _ _ _ _ _ _ _ _ _ (search rules) (search rules))

pub returns-then-from : goal.returns-then-from
returns-then-from c = obeys_done _ (done_with c.in_phase-next-then-from.ensures c.done.ensures) (λ p. refl) (λ h g s p. data_more _ _ _ _ _ _ _ _ _ _ _ _ (search rules) c.if-byte-ne-CONFIRM.false c.used_in-used.ensures c.store_byte.ensures (search rules))

pub returns : goal.returns
returns c = obeys_set _ _ (done_with c.in_phase.ensures c.done-2.ensures) (λ p. c.close_upload.ensures.1) (λ h g s p. data_last _ _ _ _ _ _ _ _ _ _ _ _ (search rules) c.if-byte-ne-CONFIRM.false c.used_in-used.ensures c.store_byte.ensures _ _ (search rules) c.kind_of.ensures c.close_upload.ensures.0)
