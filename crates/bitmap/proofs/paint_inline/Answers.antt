use Rattle.bitmap.proofs.Inline.{byte_lent, inline_painted, inline_below, inline_none}
use borrow.Author.Rules.{rules}
use Rattle.bitmap.proofs.paint_inline.Goals as goal

pub returns-then-y-from : goal.returns-then-y-from
returns-then-y-from c = let a = c.args in let p = c.inline_place-x in
    inline_painted a.x1 a.y1 a.x2 a.y2 a.k a.byte a.framebuffer.now _ _ _ _ p.ensures.column p.ensures.row
    (rw c.from-then-y-from.ensures at c.min-end.ensures) (search rules)
    (byte_lent p.result.x _ p.result.y a.byte _ _ a.framebuffer.now _ (λ i. (c.slice_known-1.given i).fits) c.min-from.ensures c.min-to.ensures c.paint_byte.ensures)

pub returns-else-y-from : goal.returns-else-y-from
returns-else-y-from c = let a = c.args in inline_below a.x1 a.y1 a.x2 a.y2 a.k a.byte a.framebuffer.now a.framebuffer.now _ _ 0 c.inline_place-x.ensures.column c.inline_place-x.ensures.row (λ i. (c.type_inv.framebuffer i).fits) (search rules)

pub returns-else-x1-x2 : goal.returns-else-x1-x2
returns-else-x1-x2 c = let a = c.args in inline_none a.x1 a.y1 a.x2 a.y2 a.k a.byte a.framebuffer.now (λ i. (c.type_inv.framebuffer i).fits) (search rules)
