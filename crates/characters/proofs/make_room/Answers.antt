use Rattle.characters.proofs.Places.{room_none, room_made}
use Rattle.characters.proofs.make_room.Goals as goal

pub returns-in_err-x : goal.returns-in_err-x
returns-in_err-x c = rw c.from_residual.ensures (room_none _ _ _ c.place_for.ensures c.in_err-x.was)

pub returns : goal.returns
returns c = room_made _ _ _ _ _ c.place_for.ensures c.in_ok-x.was c.move_up.ensures
