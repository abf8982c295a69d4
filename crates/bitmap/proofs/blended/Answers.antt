use Rattle.bitmap.proofs.Pairs.{pair_blended}
use borrow.Author.Rules.{rules}
use Rattle.bitmap.proofs.blended.Goals as goal

pub returns : goal.returns
returns c = pair_blended _ _ _ (search rules) (search rules)
