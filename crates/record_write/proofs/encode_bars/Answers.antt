use mathlib.Core.Path.{refl}
use borrow.Author.Rules.{rules}
use Rattle.record.specs.Layout.{bars_at}
use Rattle.record.specs.Writing.{slot_bytes}
use Rattle.state.specs.State.{no_bar}
use Rattle.record_write.proofs.Loops.{laying_start, laying_step, laying_end}
use Rattle.record_write.proofs.encode_bars.Goals as goal

pub loop-i-init : goal.loop-i-init
loop-i-init c = laying_start slot_bytes 7 bars_at _ _

pub loop-i-preserved : goal.loop-i-preserved
loop-i-preserved c = laying_step slot_bytes 7 bars_at c.loop-i.invariant no_bar (λ a. refl) (search rules) c.slot_bytes.ensures c.put.ensures

pub returns : goal.returns
returns c = (laying_end slot_bytes 7 bars_at c.loop-i.invariant (search rules), search rules)
