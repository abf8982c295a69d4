use Rattle.queue.proofs.InPlace.{stored_in}
use Rattle.std.proofs.Common.{rules}
use Rattle.queue.proofs.store.Goals as goal

pub returns : goal.returns
returns c = stored_in c.args.r.now (λ i. (c.slice_known-1.given i).fits) c.requires.0 _ _ _ _ c.args.mark (search rules) (search rules) (search rules)
