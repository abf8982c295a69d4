use Rattle.std.proofs.Common.{refl, ◌∙◌, arith, rules}
use Rattle.storage.proofs.Laws.{upload_19, upload_25, upload_24, upload_done, size_fits}
use Rattle.outcome.proofs.Laws.{obeys_telling, obeys_one, sending_with}
use Rattle.storage.proofs.begin_upload.Goals as goal

pub returns-then-number-gt-MAX_NUMBER : goal.returns-then-number-gt-MAX_NUMBER
returns-then-number-gt-MAX_NUMBER c = obeys_telling 19 8 c.telling.ensures (λ h g s p. refl) (λ h g s p. upload_19 _ _ _ _ _ _ (search rules))

pub returns-then-is_in_use : goal.returns-then-is_in_use
returns-then-is_in_use c = obeys_telling 25 8 c.telling-then-is_in_use.ensures (λ h g s p. refl) (λ h g s p. upload_25 _ _ _ _ _ _ (search rules) _ c.is_in_use.ensures (search rules))

pub returns-then-lacks_space : goal.returns-then-lacks_space
returns-then-lacks_space c = obeys_telling 24 8 c.telling-then-lacks_space.ensures (λ h g s p. refl) (λ h g s p. upload_24 _ _ _ _ _ _ (search rules) _ c.is_in_use.ensures c.if-is_in_use.false _ _ _ _ _ c.tally-end.ensures.0 (c.from.ensures ∙ c.used_in.ensures) c.unused-free.ensures c.kind_of.ensures c.lacks_space.ensures (search rules))

pub overflow_cast-size : goal.overflow_cast-size
overflow_cast-size c = omega (arith, size_fits _ _ _ _ _ c.lacks_space.ensures (search rules))

pub returns : goal.returns
returns c = obeys_one _ _ (sending_with c.in_phase-next.ensures c.one_byte.ensures c.sending.ensures) (λ p. refl) (λ h g s p. upload_done _ _ _ _ _ _ c.if-number-gt-MAX_NUMBER.false _ c.is_in_use.ensures c.if-is_in_use.false _ _ _ _ _ c.tally-end.ensures.0 (c.from.ensures ∙ c.used_in.ensures) c.unused-free.ensures c.kind_of.ensures c.lacks_space.ensures (search rules))
