-- The serial line: a byte arrives at the queue, a byte is taken from it. Both read the state record, and write the queue record alone.
-- Assumes nothing.
use Rattle.std.specs.Prelude.{List, Bool, cond, ◌&&◌, ℕ}
use Rattle.queue.specs.declared.Flow.{Flow}
use Rattle.queue.specs.Queue.{arrive_of, take_of}
use Rattle.queue.specs.Record as queue-record
pub use Rattle.queue.specs.Record.{Served, served, arrived, handed}
use Rattle.record.specs.Reading.{decode_of}
use Rattle.record.specs.Record.{sound_record}

-- 3 unless both records are sound
abbrev pub both_sound : List ℕ → List ℕ → Bool
both_sound r q = sound_record r && queue-record.sound_record q

abbrev pub flow_in : List ℕ → Flow
flow_in r = (decode_of r).port.flow

unfoldable pub arrive_call : List ℕ → List ℕ → ℕ → Served
arrive_call r q b = cond (both_sound r q) (arrived (arrive_of (queue-record.decode_of q) (flow_in r) b)) (served 3 0 0 q)

unfoldable pub take_call : List ℕ → List ℕ → Served
take_call r q = cond (both_sound r q) (handed (take_of (queue-record.decode_of q) (flow_in r))) (served 3 0 0 q)
