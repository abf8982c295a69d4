use Rattle.std.proofs.Common.{arith}
use Rattle.std.proofs.lemmas.Int.{ints, to_z-of_z}
use Rattle.line.specs.Walk.{direction_of}
use Rattle.line.proofs.direction.Goals as goal

pub returns : goal.returns
unfolding direction_of
returns c = grind (arith, ints, to_z-of_z)
