use mathlib.Core.Path.{refl}
use Rattle.rectangle.proofs.Runs.{two_runs}
use Rattle.rectangle.proofs.Rows.{row_painted}
use borrow.Author.Rules.{rules}
use Rattle.rectangle.proofs.fill_row.Goals as goal

pub returns : goal.returns
returns g c = row_painted _ c.args.y _ _ _ _ _ _ _ (search rules) (search rules) refl refl c.stamp_inside.ensures (two_runs _ _ _ _ _ _ _ _ (search rules) (search rules) (search rules) c.fill_bytes.ensures c.fill_bytes-2.ensures) c.stamp_inside-2.ensures
