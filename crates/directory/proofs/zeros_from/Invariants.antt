use Rattle.directory.proofs.Walks.{Zeroing}
use Rattle.directory.proofs.zeros_from.Given as goal

abbrev pub invariant-loop-p : goal.invariant-loop-p
invariant-loop-p l = Zeroing l.store l.from l.p l.all
