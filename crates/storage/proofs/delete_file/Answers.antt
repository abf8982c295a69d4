use Rattle.std.proofs.Common.{refl, rules}
use Rattle.storage.proofs.Laws.{delete_20, delete_19, delete_22, delete_chosen, delete_other}
use Rattle.outcome.proofs.Laws.{obeys_refused, obeys_set, done_with}
use Rattle.storage.proofs.delete_file.Goals as goal

pub returns-then-of_type-ge-TYPES : goal.returns-then-of_type-ge-TYPES
returns-then-of_type-ge-TYPES c = obeys_refused 20 c.refused.ensures (λ h g s p. refl) (λ h g s p. delete_20 _ _ _ _ _ (search rules))

pub returns-then-number-gt-MAX_NUMBER : goal.returns-then-number-gt-MAX_NUMBER
returns-then-number-gt-MAX_NUMBER c = obeys_refused 19 c.refused-then-number-gt-MAX_NUMBER.ensures (λ h g s p. refl) (λ h g s p. delete_19 _ _ _ _ _ (search rules) (search rules))

pub returns-in_default : goal.returns-in_default
returns-in_default c = obeys_refused 22 c.refused-in_default.ensures (λ h g s p. refl) (λ h g s p. delete_22 _ _ _ _ _ _ c.if-of_type-ge-TYPES.false c.if-number-gt-MAX_NUMBER.false c.find.ensures (search rules))

pub returns-then-number-port : goal.returns-then-number-port
returns-then-number-port c = obeys_set _ _ (done_with c.put_text.ensures c.done.ensures) (λ p. c.take_out.ensures.1) (λ h g s p. delete_chosen _ _ _ _ _ _ c.if-of_type-ge-TYPES.false c.if-number-gt-MAX_NUMBER.false c.find.ensures _ _ c.in-Some.is c.take_out.ensures.0 (search rules) (search rules))

pub returns : goal.returns
returns c = obeys_set _ _ c.done-2.ensures (λ p. c.take_out.ensures.1) (λ h g s p. delete_other _ _ _ _ _ _ c.if-of_type-ge-TYPES.false c.if-number-gt-MAX_NUMBER.false c.find.ensures _ _ c.in-Some.is c.take_out.ensures.0 c.else-sort-eq-FONT.either)
