use Rattle.std.proofs.Common.{arith}
use Rattle.std.proofs.lemmas.Int.{ints, to_z-of_z}
use Rattle.line.specs.Walk.{column_of, row_of}
use Rattle.line.proofs.Walker.plot.Goals as goal

pub returns-then-steep : goal.returns-then-steep
unfolding column_of row_of
returns-then-steep c = grind (arith, ints, to_z-of_z)

pub returns-else-steep : goal.returns-else-steep
unfolding column_of row_of
returns-else-steep c = grind (arith, ints, to_z-of_z)
