use native.Mathlib.Omega.{arith}
use Rattle.bar_graph.specs.Bars.{held_to}
use Rattle.bar_graph.proofs.held.Goals as goal

pub returns : goal.returns
unfolding held_to
returns c = omega arith
