use Rattle.std.proofs.Common.{◌≡◌}
use Rattle.directory.proofs.Walks.{Surveying}
use Rattle.directory.proofs.survey.Given as goal

abbrev pub invariant-loop-r : goal.invariant-loop-r
invariant-loop-r l = record { same : l.r-iterator.store.now ≡ l.store; stands : l.r-iterator.at ≡ l.end; surveying : Surveying l.store l.seen l.end l.used }
