use native.Mathlib.Omega.{arith}
use Rattle.fonts.specs.Fonts.{offset_at}
use Rattle.fonts.proofs.offset_at.Goals as goal

pub returns : goal.returns
unfolding offset_at
returns c = (omega arith, omega arith)
