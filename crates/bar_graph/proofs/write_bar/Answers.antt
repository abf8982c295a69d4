use Rattle.bar_graph.proofs.Lent.{write_lent, write_none}
use borrow.Author.Rules.{rules}
use Rattle.bar_graph.proofs.write_bar.Goals as goal

pub returns-then-bar : goal.returns-then-bar
returns-then-bar c = let a = c.args in (search rules, write_none a.bar a.value a.framebuffer.now (λ i. (c.type_inv.framebuffer i).fits) (search rules))

pub returns : goal.returns
returns c = let a = c.args in (
  search rules,
  write_lent a.bar a.value a.framebuffer.now _ c.raised.result c.rows_between-rows.result c.from.result c.from-2.result
      (λ i. (c.slice_known-1.given i).fits) (search rules) c.from.ensures c.from-2.ensures c.raised.ensures c.rows_between-rows.ensures c.paint_write.ensures,
)
