use mathlib.Core.Path.{refl}
use Rattle.text.proofs.Laws.{choose_19, from_found, from_refused, choose_shut, choose_opened}
use Rattle.outcome.proofs.Laws.{obeys_refused, obeys_done, done_with}
use borrow.Author.Rules.{rules}
use Rattle.text.proofs.choose_font.Goals as goal

pub returns-then-number-gt-MAX_NUMBER : goal.returns-then-number-gt-MAX_NUMBER
returns-then-number-gt-MAX_NUMBER c = obeys_refused 19 c.refused.ensures (λ h g s p. refl) (λ h g s p. choose_19 _ _ _ _ (search rules))

pub returns-in-Err : goal.returns-in-Err
returns-in-Err c = obeys_refused _ c.refused-in-Err.ensures (λ h g s p. refl) (λ h g s p. choose_shut _ _ _ _ _ (search rules) (from_refused _ _ _ _ c.find_font.ensures _ c.in-Err.is))

pub returns : goal.returns
returns c =
    let found = from_found _ _ _ _ c.find_font.ensures _ c.in_default.is in
    obeys_done _ (done_with c.put_text.ensures c.done.ensures) (λ p. refl) (λ h g s p. choose_opened _ _ _ _ _ (search rules) found.1)
