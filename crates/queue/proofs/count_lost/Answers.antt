use Rattle.queue.proofs.InPlace.{counted_in}
use Rattle.std.proofs.Common.{◌+◌, ◌%◌, rules, arith}
use Rattle.queue.proofs.count_lost.Goals as goal

pub returns : goal.returns
returns c = rw c.to_le_bytes.ensures (counted_in c.args.r.now (λ i. (c.slice_known-1.given i).fits) c.requires ((c.from_le_bytes-lost.result + 1) % 65536) _ _ (search rules) (omega arith) (omega arith))
