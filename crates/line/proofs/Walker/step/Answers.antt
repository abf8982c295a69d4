use Rattle.std.proofs.Common.{arith, ◌≡◌, false, pos, ◌+ℤ◌}
use lib.Signed.{lt_z}
use Rattle.std.proofs.lemmas.Int.{ints, to_z-of_z}
use Rattle.line.specs.Walk.{step_of}
use Rattle.line.proofs.Steps.{walker_same}
use Rattle.line.proofs.Walker.step.Goals as goal

pub returns-then-error-lt0 : goal.returns-then-error-lt0
unfolding step_of
returns-then-error-lt0 c = grind (arith, ints, to_z-of_z)

pub returns : goal.returns
unfolding step_of
returns c =
    let high : lt_z (c.args.self.error +ℤ c.args.slope.twice_rise) (pos 0) ≡ false = grind (arith, ints, to_z-of_z) in
    rw high (walker_same (omega (arith, ints)) (omega (arith, ints)) (omega (arith, ints)))
