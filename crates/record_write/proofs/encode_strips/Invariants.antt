use Rattle.record.specs.Layout.{strips_at}
use Rattle.record.specs.Writing.{strip_bytes}
use Rattle.record_write.proofs.Loops.{Laying}
use Rattle.record_write.proofs.encode_strips.Given as goal

abbrev pub invariant-loop-i : goal.invariant-loop-i
invariant-loop-i l = Laying strip_bytes 5 strips_at l.strips l.initial.out l.out l.i
