use borrow.Author.Rules.{rules}
use borrow.Author.Tests.{not-true, not-false}
use Rattle.fonts.proofs.Ways.{checking_start, checking_stop, checking_more, checking_end}
use Rattle.fonts.proofs.are_entries.Goals as goal

pub loop-k-init : goal.loop-k-init
loop-k-init c = checking_start _ _

pub returns-then-not-is_entry : goal.returns-then-not-is_entry
returns-then-not-is_entry c = checking_stop _ _ _ _ c.loop-k.invariant (search rules) c.is_entry.ensures (not-true _ c.if-not-is_entry.true-raw)

pub loop-k-preserved : goal.loop-k-preserved
loop-k-preserved c = checking_more _ _ _ _ c.loop-k.invariant (search rules) c.is_entry.ensures (not-false _ c.if-not-is_entry.false-raw)

pub returns : goal.returns
returns c = checking_end _ _ _ c.loop-k.invariant (search rules)
