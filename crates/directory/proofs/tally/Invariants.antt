use Rattle.std.proofs.Common.{◌≡◌}
use Rattle.directory.proofs.Walks.{Counting}
use Rattle.directory.proofs.tally.Given as goal

abbrev pub invariant-loop-r : goal.invariant-loop-r
invariant-loop-r l = record { same : l.r-iterator.store.now ≡ l.store; stands : l.r-iterator.at ≡ l.end; counting : Counting l.store l.end l.used }
