use Rattle.std.proofs.Common.{◌≡◌}
use Rattle.directory.proofs.Walks.{Finding}
use Rattle.directory.proofs.find.Given as goal

abbrev pub invariant-loop-r : goal.invariant-loop-r
invariant-loop-r l = record { same : l.r-iterator.store.now ≡ l.store; finding : Finding l.store l.sort l.number l.r-iterator.at l.start }
