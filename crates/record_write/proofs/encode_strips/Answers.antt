use mathlib.Core.Path.{refl}
use borrow.Author.Rules.{rules}
use Rattle.record.specs.Layout.{strips_at}
use Rattle.record.specs.Writing.{strip_bytes}
use Rattle.state.specs.State.{no_strip}
use Rattle.record_write.proofs.Loops.{laying_start, laying_step, laying_end}
use Rattle.record_write.proofs.encode_strips.Goals as goal

pub loop-i-init : goal.loop-i-init
loop-i-init c = laying_start strip_bytes 5 strips_at _ _

pub loop-i-preserved : goal.loop-i-preserved
loop-i-preserved c = laying_step strip_bytes 5 strips_at c.loop-i.invariant no_strip (λ a. refl) (search rules) c.strip_bytes.ensures c.put.ensures

pub returns : goal.returns
returns c = (laying_end strip_bytes 5 strips_at c.loop-i.invariant (search rules), search rules)
