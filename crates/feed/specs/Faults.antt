-- The numbers of what a call answers.
-- Assumes nothing.
use Rattle.std.specs.Prelude.{ℕ, Result, Ok, Err, ⊤}
use Rattle.feed.specs.declared.Fault.{Fault}
use Rattle.feed.specs.declared.Fault.TheVariants.{BadFramebuffer, BadStore, BadRecord, BadDirectory, NoReplyRoom}

abbrev pub fault_number : Fault → ℕ
fault_number BadFramebuffer = 1
fault_number BadStore = 2
fault_number BadRecord = 3
fault_number BadDirectory = 4
fault_number NoReplyRoom = 5

-- 0 where all is done
abbrev pub number_of : Result ⊤ Fault → ℕ
number_of (Ok _) = 0
number_of (Err fault) = fault_number fault
