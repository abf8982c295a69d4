use Rattle.display.proofs.Ways.{arrive_3, arrive_queue}
use borrow.Author.Rules.{rules}
use Rattle.display.proofs.display_arrive.Goals as goal

pub returns-then-not-is_record : goal.returns-then-not-is_record
returns-then-not-is_record c = rw c.from.ensures (arrive_3 _ _ _ c.is_record.ensures _ (search rules))

pub returns-in-Ok : goal.returns-in-Ok
returns-in-Ok c = rw c.number_sent.ensures (arrive_queue _ _ _ c.is_record.ensures (search rules) _ c.flow_in-flow.ensures _ _ c.in-Ok.ensures)

pub returns-in-Err : goal.returns-in-Err
returns-in-Err c = rw (c.from-in-Err-2.ensures, c.from-in-Err.ensures) (arrive_queue _ _ _ c.is_record.ensures (search rules) _ c.flow_in-flow.ensures _ _ c.in-Err.ensures)
