use Rattle.bitmap.proofs.Strips.{strip_rest}
use Rattle.bitmap.proofs.paint_strip.Goals as goal

pub returns : goal.returns
returns c = strip_rest c.paint_pairs-y.ensures _ (rw c.from.ensures at c.paint_rows.ensures)
