use mathlib.Core.Path.{refl}
use Rattle.text.proofs.Laws.{place_no_column, place_no_row, place_off_right, place_off_below, place_done}
use Rattle.outcome.proofs.Laws.{obeys_refused, obeys_as}
use borrow.Author.Rules.{rules}
use Rattle.text.proofs.place_by.Goals.{then-column-eq0-via-then-column-eq0, then-column-eq0-via-else-column-eq0+then-row-eq0, then-x-from-via-then-x-from, then-x-from-via-else-x-from+then-y-from}
use Rattle.text.proofs.place_by.Goals as goal

pub returns-then-column-eq0 : goal.returns-then-column-eq0
returns-then-column-eq0 c =
    obeys_refused 17 c.refused.ensures (λ h g s p. refl) (λ h g s p. elim c.then-column-eq0.branch [
      | then-column-eq0-via-then-column-eq0 w ↦ place_no_column _ _ _ _ _ _ _ w.if-column-eq0.true
      | then-column-eq0-via-else-column-eq0+then-row-eq0 w ↦ place_no_row _ _ _ _ _ _ _ w.if-column-eq0.false w.if-row-eq0.true
    ])

pub returns-then-x-from : goal.returns-then-x-from
returns-then-x-from c =
    obeys_refused 17 c.refused-then-x-from.ensures (λ h g s p. refl) (λ h g s p. elim c.then-x-from.branch [
      | then-x-from-via-then-x-from w ↦ place_off_right _ _ _ _ _ _ _ _ _ c.if-column-eq0.false c.if-row-eq0.false c.pixel_of-x.ensures c.pixel_of-y.ensures (search rules)
      | then-x-from-via-else-x-from+then-y-from w ↦ place_off_below _ _ _ _ _ _ _ _ _ c.if-column-eq0.false c.if-row-eq0.false c.pixel_of-x.ensures c.pixel_of-y.ensures (search rules) (search rules)
    ])

pub returns : goal.returns
returns c = obeys_as c.set_point.ensures (λ h g s p. refl) (λ h g s p. place_done _ _ _ _ _ _ _ _ _ c.if-column-eq0.false c.if-row-eq0.false c.pixel_of-x.ensures c.pixel_of-y.ensures (search rules) (search rules))
