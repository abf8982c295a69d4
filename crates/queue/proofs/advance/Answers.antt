use Rattle.queue.proofs.InPlace.{advanced_in, oldest_in}
use Rattle.std.proofs.Common.{rules}
use Rattle.queue.proofs.advance.Goals as goal

pub returns : goal.returns
returns c = (oldest_in c.args.r.now (λ i. (c.slice_known-1.given i).fits) c.requires.0 _ (search rules) (search rules), advanced_in c.args.r.now (λ i. (c.slice_known-1.given i).fits) c.requires.0 _ _ c.args.mark (search rules) (search rules))
