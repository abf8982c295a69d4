use mathlib.Core.Path.{refl}
use Rattle.spans.proofs.Cells.{right_lt, cell_painted}
use borrow.Author.Rules.{rules}
use Rattle.spans.proofs.paint_part.Goals as goal

pub overflow_cast-right : goal.overflow_cast-right
overflow_cast-right c = record { fits = right_lt _ }

pub returns : goal.returns
returns c = let a = c.args in
    cell_painted a.framebuffer.now _ a.x a.end a.y a.bits c.cell.result _ _ _ (search rules) (search rules) (search rules) refl refl c.cell.ensures refl c.blend.ensures
