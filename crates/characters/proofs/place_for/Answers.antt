use mathlib.Core.Path.{◌∙◌}
use Rattle.characters.proofs.Places.{room_nowhere, room_right, room_below, room_here}
use borrow.Author.Rules.{rules}
use Rattle.characters.proofs.place_for.Goals.{then-from-via-then-from, then-from-via-else-from+then-from-2}
use Rattle.characters.proofs.place_for.Goals as goal

pub returns-in_err-x : goal.returns-in_err-x
returns-in_err-x c = c.from_residual.ensures ∙ room_nowhere _ _ _ _ _ c.wrapped.ensures c.in_err-x.was

pub returns-then-from : goal.returns-then-from
returns-then-from c = elim c.then-from.branch [
  | then-from-via-then-from w ↦ room_right _ _ _ _ _ c.wrapped.ensures _ c.in_ok-x.was (search rules)
  | then-from-via-else-from+then-from-2 w ↦ room_below _ _ _ _ _ c.wrapped.ensures _ c.in_ok-x.was (search rules) (search rules)
]

pub returns : goal.returns
returns c = room_here _ _ _ _ _ c.wrapped.ensures _ c.in_ok-x.was (search rules) (search rules)
