use Rattle.std.proofs.Common.{arith}
use Rattle.std.proofs.lemmas.Int.{ints, to_z-of_z}
use Rattle.line.specs.Walk.{slope_of}
use Rattle.line.proofs.Steps.{direction_below}
use Rattle.line.proofs.Slope.between.Goals as goal

pub returns : goal.returns
unfolding slope_of
returns c = grind (arith, ints, to_z-of_z, direction_below)
