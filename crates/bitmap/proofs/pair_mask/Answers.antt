use borrow.Author.Rules.{rules}
use Rattle.bitmap.specs.Pairs.{column_mask}
use Rattle.bitmap.proofs.Pairs.{swap_is}
use Rattle.bitmap.proofs.pair_mask.Goals as goal

pub returns : goal.returns
unfolding column_mask
returns c = swap_is _ _ (search rules) c.swap_bytes.ensures
