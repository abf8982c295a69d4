use native.Mathlib.Omega.{arith}
use Rattle.strip_chart.proofs.Walk.{strip_lent, strip_off}
use Rattle.strip_chart.proofs.shift_strip.Goals as goal

pub returns-then-left-last : goal.returns-then-left-last
returns-then-left-last c = let a = c.args in
    strip_lent a.right a.x1 a.y1 a.x2 a.y2 c.min-last.result a.framebuffer.now _ c.rows_between-rows.result (λ i. (c.slice_known-1.given i).fits)
    (rw c.from.ensures at c.min-last.ensures)
    (rw (c.from-then-left-last.ensures, c.from-then-left-last-2.ensures) at c.rows_between-rows.ensures)
    (rw c.from-left.ensures at c.shift_rows.ensures)

pub returns-else-left-last : goal.returns-else-left-last
returns-else-left-last c = let a = c.args in strip_off a.right a.x1 a.y1 a.x2 a.y2 a.framebuffer.now (λ i. (c.type_inv.framebuffer i).fits) (omega (arith, c.min-last.ensures))
