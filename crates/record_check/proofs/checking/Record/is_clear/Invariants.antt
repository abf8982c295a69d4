use Rattle.record_check.proofs.Standing.{Cleared}
use Rattle.record_check.proofs.checking.Record.is_clear.Given as goal

abbrev pub invariant-loop-k : goal.invariant-loop-k
invariant-loop-k l = Cleared l.self.bytes.now l.from l.to l.k l.none
