use Rattle.std.proofs.Common.{arith}
use Rattle.directory.proofs.Laws.{stands}
use Rattle.directory.proofs.RecordsIterator.next.Goals as goal

pub overflow_add-behind : goal.overflow_add-behind
overflow_add-behind c = let w = stands _ _ _ c.step_at-n.ensures c.if-n-eq0.false in record { fits = omega arith }

pub entry_at-requires : goal.entry_at-requires
entry_at-requires c = let w = stands _ _ _ c.step_at-n.ensures c.if-n-eq0.false in (w.same, w.least, w.fits)

pub returns-clause-goes : goal.returns-clause-goes
returns-clause-goes c = let w = stands _ _ _ c.step_at-n.ensures c.if-n-eq0.false in record { on = λ h. (tt, tt, omega arith); keeps = tt; rests = λ h. tt }
