use Rattle.pixels.specs.Framebuffer.{plain}
use Rattle.canvas.proofs.Lent.{lent_box}
use Rattle.rectangle.proofs.Columns.{columns_box, lent_rows}
use Rattle.rectangle.proofs.fill_box.Goals as goal

pub returns : goal.returns
returns c = let a = c.args in lent_box a.framebuffer.now _ a.x1 a.x2 a.y1 a.y2 c.min-right.result c.rows_between-from.result (plain a.c.black) (λ i. (c.slice_known-1.given i).fits) c.rows_between-from.ensures c.min-right.ensures (columns_box _ _ _ (plain a.c.black) _ _ (lent_rows _ _ _ _ c.rows_between-from.ensures) c.fill_columns.ensures)
