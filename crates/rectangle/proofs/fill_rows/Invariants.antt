use Rattle.rectangle.specs.Ends.{ends_columns}
use Rattle.pixels.specs.Framebuffer.{plain}
use Rattle.pixels.proofs.Growth.{ColumnsPainted}
use Rattle.rectangle.proofs.fill_rows.Given as goal

abbrev pub invariant-loop-y : goal.invariant-loop-y
invariant-loop-y g l = ColumnsPainted (ends_columns l.ends) l.y (plain l.c.black) l.initial.rows l.rows
