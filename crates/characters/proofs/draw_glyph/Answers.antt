use Prim.Native.Nat.{ℕ}
use mathlib.Core.Path.{refl, ap}
use mathlib.Core.List.{List}
use Rattle.outcome.specs.Contract.{held}
use Rattle.outcome.proofs.Laws.{obeys_refused, obeys_done}
use Rattle.characters.proofs.Places.{fits, moved_none, drawn_29, drawn_done}
use Rattle.characters.proofs.draw_glyph.Goals as goal

pub returns-in_default : goal.returns-in_default
returns-in_default c = obeys_refused 29 c.refused_in_line.ensures (λ h g s p. ap (λ (x : List ℕ). held h x s p c.args.port) (moved_none _ _ _ c.in_default.is c.make_room.ensures.1)) (λ h g s p. drawn_29 _ _ _ _ _ _ _ c.make_room.ensures.0 c.in_default.is)

pub move_on-requires : goal.move_on-requires
move_on-requires c = (fits _ _ _ _ _ _ c.make_room.ensures.0 c.in-Some.is).right

pub returns : goal.returns
returns c = obeys_done _ c.move_on.ensures (λ p. refl) (λ h g s p. drawn_done _ _ _ _ _ _ _ c.make_room.ensures.0 _ _ _ c.in-Some.is c.make_room.ensures.1 c.paint_packed.ensures)
