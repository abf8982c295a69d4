use Rattle.bar_graph.proofs.Ways.{fill_rows, fill_columns}
use borrow.Author.Rules.{rules}
use Rattle.bar_graph.proofs.fill_stripe.Goals as goal

pub returns-then-is_vertical : goal.returns-then-is_vertical
returns-then-is_vertical c = fill_rows _ _ _ _ _ _ _ _ _ _ _ c.is_from_far-far.ensures c.is_vertical.ensures (search rules) c.interval_of-along.ensures c.from.ensures c.from-then-is_vertical.ensures c.fill_box.ensures

pub returns : goal.returns
returns c = fill_columns _ _ _ _ _ _ _ _ _ _ _ c.is_from_far-far.ensures c.is_vertical.ensures (search rules) c.interval_of-along-2.ensures c.from-2.ensures c.from-3.ensures c.fill_box-2.ensures
