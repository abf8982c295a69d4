use native.Mathlib.Omega.{arith}
use Rattle.std.proofs.lemmas.Grind.{common_steps}
use Rattle.record.proofs.Windows.{whole_part, short_part}
use Rattle.record.proofs.reading.part_at.Goals as goal

pub returns-then-rest : goal.returns-then-rest
returns-then-rest g c = whole_part _ _ _ c.min.ensures _ _ c.if-rest.true (c.copy_bytes.ensures.whole (grind (arith, common_steps, c.if-rest.true)))

pub returns-else-rest : goal.returns-else-rest
returns-else-rest g c = short_part _ _ _ c.min.ensures _ _ c.if-rest.false (c.copy_bytes-else-rest.ensures.whole (grind (arith, common_steps, c.if-rest.false)))
