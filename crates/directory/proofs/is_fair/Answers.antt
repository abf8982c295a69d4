use Rattle.std.proofs.Common.{arith}
use Rattle.std.proofs.lemmas.Bool.Decides.{nat_tests}
use Rattle.directory.specs.Directory.{is_fair}
use Rattle.directory.proofs.is_fair.Goals.{then-e-ne0, else-e-ne0}
use Rattle.directory.proofs.is_fair.Goals as goal

pub returns-then-e-le-MAX_NUMBER : goal.returns-then-e-le-MAX_NUMBER
unfolding is_fair
returns-then-e-le-MAX_NUMBER c = elim c.if-e-ne0.branch [ then-e-ne0 w ↦ grind (arith, nat_tests) | else-e-ne0 w ↦ grind (arith, nat_tests) ]

pub returns-else-e-le-MAX_NUMBER : goal.returns-else-e-le-MAX_NUMBER
unfolding is_fair
returns-else-e-le-MAX_NUMBER c = elim c.if-e-ne0.branch [ then-e-ne0 w ↦ grind (arith, nat_tests) | else-e-ne0 w ↦ grind (arith, nat_tests) ]
