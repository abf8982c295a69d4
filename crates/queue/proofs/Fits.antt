-- A queue whose numbers fit stays one.
-- Assumes nothing.
use Rattle.std.proofs.Common.{ℕ, ◌+◌, ◌%◌, ◌<◌, List, length, set, ◌∙◌, arith, length-set, get_or-set_other, get_or-set_same}
use native.Mathlib.Decide.{ℕ_discrete}
use Rattle.queue.specs.declared.Flow.{Flow}
use Rattle.queue.specs.Queue.{Queue, stored, counted, arrive_of, advanced, take_of}
use Rattle.queue.specs.Record.{Fits, Bytes}
use Rattle.queue.proofs.Cases.{arrive_cases, take_cases}

bytes_set : (l : List ℕ) (i b : ℕ) → Bytes l → b < 256 → i < length l → Bytes (set l i b)
bytes_set l i b f h m k =
    elim (ℕ_discrete k i) [
      | yes e ↦ rw (e, get_or-set_same l i b 0 m) h
      | no e ↦ rw (get_or-set_other l i k b 0 e) (f k)
    ]

pub arrival_fits : (q : Queue) (f : Flow) (b : ℕ) → b < 256 → Fits q → Fits (arrive_of q f b).queue
unfolding stored counted
arrival_fits q f b h s =
    arrive_cases q f b (λ a. Fits a.queue)
    (λ l. record {
      size = length-set q.ring ((q.place + q.held) % 80) b ∙ s.size;
      bytes = bytes_set q.ring ((q.place + q.held) % 80) b s.bytes h (omega (arith, s.size));
      place_fits = s.place_fits;
      held_fits = omega arith;
      lost_fits = s.lost_fits;
    })
    (λ l. record { size = s.size; bytes = s.bytes; place_fits = s.place_fits; held_fits = s.held_fits; lost_fits = omega arith })

pub take_fits : (q : Queue) (f : Flow) → Fits q → Fits (take_of q f).queue
unfolding advanced
take_fits q f s =
    take_cases q f (λ t. Fits t.queue) (λ l. s)
    (λ l. record { size = s.size; bytes = s.bytes; place_fits = omega arith; held_fits = omega (arith, s.held_fits); lost_fits = s.lost_fits })
