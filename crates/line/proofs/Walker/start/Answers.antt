use Rattle.std.proofs.Common.{arith}
use Rattle.std.proofs.lemmas.Int.{ints, to_z-of_z}
use Rattle.line.specs.Walk.{start_of}
use Rattle.line.proofs.Walker.start.Goals as goal

pub returns : goal.returns
unfolding start_of
returns c = grind (arith, ints, to_z-of_z)
