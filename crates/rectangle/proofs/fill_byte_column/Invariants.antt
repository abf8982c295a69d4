use Prim.Native.Nat.{◌+◌, ◌*◌}
use Rattle.rectangle.proofs.Rows.{Column}
use Rattle.rectangle.proofs.fill_byte_column.Given as goal

abbrev pub invariant-loop-y : goal.invariant-loop-y
invariant-loop-y l = Column l.first l.mask (30 * l.y + l.first) l.c.black l.initial.rows l.rows
