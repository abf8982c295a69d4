use Rattle.fonts.proofs.Ways.{Checking}
use Rattle.fonts.proofs.are_entries.Given as goal

abbrev pub invariant-loop-k : goal.invariant-loop-k
invariant-loop-k l = Checking l.file l.n l.k
