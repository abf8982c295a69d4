use mathlib.Core.Path.{refl}
use native.Mathlib.Omega.{arith}
use Rattle.std.proofs.lemmas.Grind.{common_steps}
use Rattle.record.proofs.Overwriting.{over_part}
use Rattle.record.proofs.writing.put.Goals as goal

pub returns : goal.returns
returns c = over_part _ _ _ _ _ _ _ c.min-from.ensures c.min-n.ensures refl (c.copy_bytes.ensures.whole (grind (arith, common_steps, c.min-from.ensures, c.min-n.ensures)))
