use Rattle.bitmap.proofs.Strips.{packed_lent, packed_off}
use borrow.Author.Rules.{rules}
use Rattle.bitmap.proofs.paint_packed.Goals as goal

pub returns-then-x-lt-WIDTH : goal.returns-then-x-lt-WIDTH
returns-then-x-lt-WIDTH c = let a = c.args in
    packed_lent a.x a.y a.w a.h _ a.bits.now a.framebuffer.now _ c.rows_between-rows.result (λ i. (c.slice_known-1.given i).fits)
    (rw c.from.ensures at c.min-right.ensures) (rw (c.from-top.ensures, c.from-then-x-lt-WIDTH.ensures) at c.rows_between-rows.ensures)
    (rw c.from-n.ensures at c.paint_strips.ensures)

pub returns-else-x-lt-WIDTH : goal.returns-else-x-lt-WIDTH
returns-else-x-lt-WIDTH c = let a = c.args in packed_off a.x a.y a.w a.h a.bits.now a.framebuffer.now (λ i. (c.type_inv.framebuffer i).fits) (search rules)
