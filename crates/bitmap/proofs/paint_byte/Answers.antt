use mathlib.Core.Path.{refl, ◌∙◌}
use native.Mathlib.Omega.{arith}
use Rattle.bitmap.proofs.Strips.{byte_painted, byte_last, byte_none}
use borrow.Author.Rules.{rules}
use Rattle.bitmap.proofs.paint_byte.Goals as goal

pub returns-then-at-rows : goal.returns-then-at-rows
returns-then-at-rows c = let a = c.args in
    byte_painted a.rows.now a.x1 a.x2 a.y _ _ a.byte c.min-right.ensures c.cell-at.ensures _
    (λ i. (c.slice_known-1.given i).fits) (search rules) (search rules) (search rules) refl
    c.pair_mask-mask.ensures (c.from_be_bytes-columns.ensures ∙ omega arith) c.paint_pair.ensures

pub returns-else-at-rows : goal.returns-else-at-rows
returns-else-at-rows c = let a = c.args in
    byte_last a.rows.now a.x1 a.x2 a.y _ _ a.byte c.min-right.ensures c.cell-at.ensures _
    (search rules) c.paint_cell.ensures

pub returns-else-x1-right : goal.returns-else-x1-right
returns-else-x1-right c = let a = c.args in
    byte_none a.rows.now a.x1 a.x2 a.y _ a.byte c.min-right.ensures (λ i. (c.type_inv.rows i).fits) (search rules)
