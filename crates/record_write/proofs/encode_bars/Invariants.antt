use Rattle.record.specs.Layout.{bars_at}
use Rattle.record.specs.Writing.{slot_bytes}
use Rattle.record_write.proofs.Loops.{Laying}
use Rattle.record_write.proofs.encode_bars.Given as goal

abbrev pub invariant-loop-i : goal.invariant-loop-i
invariant-loop-i l = Laying slot_bytes 7 bars_at l.bars l.initial.out l.out l.i
