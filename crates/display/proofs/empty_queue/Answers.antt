use Rattle.display.proofs.Ways.{emptied_is}
use native.Mathlib.Omega.{arith}
use lib.ListN.{length-set}
use Rattle.display.proofs.empty_queue.Goals as goal

pub bounds-queue-84 : goal.bounds-queue-84
bounds-queue-84 c = simp length-set (omega (arith, c.requires))

pub returns : goal.returns
returns c = emptied_is c.args.queue.now c.requires
