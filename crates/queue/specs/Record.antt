-- The record of a queue, 85 bytes: which byte stands where, reading and writing it, which records are accepted, and what an arrival
-- and a take make of one.
-- Assumes nothing.
use Rattle.std.specs.Prelude.{◌≡◌, ℕ, zero, suc, ◌+◌, ◌*◌, ◌/◌, ◌%◌, ◌<◌, ◌≤◌, Bool, cond, ◌&&◌, List, [], ◌∷◌, ◌++◌, length, ◌==◌, nat_le, nat_lt, slice_index, Option, Result, Ok, Err}
use Rattle.queue.specs.declared.Flow.{Flow}
use Rattle.queue.specs.declared.Signal.{Signal}
use Rattle.queue.specs.declared.QueueError.{QueueError}
use Rattle.queue.specs.declared.TakenByte.{TakenByte}
use Rattle.queue.specs.Numbers.{signal_number, error_number}
use Rattle.queue.specs.Queue.{Queue, Arrival, Taken, queue, arrive_of, take_of}

-- a byte of a record; behind its end there are only zeros
abbrev pub at : List ℕ → ℕ → ℕ
at r k = slice_index r k

-- the ring stands at 0 to 79
abbrev pub place_at : ℕ
place_at = 80

abbrev pub held_at : ℕ
held_at = 81

-- 1: up, 0: down
abbrev pub mark_at : ℕ
mark_at = 82

-- the lost count, low byte first
abbrev pub lost_at : ℕ
lost_at = 83

abbrev pub lost_high_at : ℕ
lost_high_at = 84

abbrev pub record_size : ℕ
record_size = 85

-- n bytes from k on
unfoldable pub bytes_from : List ℕ → ℕ → ℕ → List ℕ
bytes_from r k zero = []
bytes_from r k (suc n) = at r k ∷ bytes_from r (k + 1) n

unfoldable pub decode_of : List ℕ → Queue
decode_of r = queue (bytes_from r 0 80) (at r place_at) (at r held_at) (at r mark_at == 1) (at r lost_at + 256 * at r lost_high_at)

abbrev pub bit : Bool → ℕ
bit mark = cond mark 1 0

unfoldable pub encode_of : Queue → List ℕ
encode_of q = q.ring ++ (q.place ∷ q.held ∷ bit q.mark ∷ q.lost % 256 ∷ q.lost / 256 ∷ [])

-- the rules' list: the place is below 80 and the held count at most 80
abbrev pub sound_ring : List ℕ → Bool
sound_ring r = nat_lt (at r place_at) 80 && nat_le (at r held_at) 80

-- the layout's and not the list's: a mark is 0 or 1, so that one queue has one record
abbrev pub canonical_mark : List ℕ → Bool
canonical_mark r = nat_le (at r mark_at) 1

-- what is not refused with 3: of the right length, sound, and canonical
unfoldable pub sound_record : List ℕ → Bool
sound_record r = length r == record_size && sound_ring r && canonical_mark r

-- the same, clause by clause
pub record Passed (r : List ℕ) : Type 0 where
  pub long : length r ≡ record_size
  pub place_below : at r place_at < 80
  pub held_most : at r held_at ≤ 80
  pub mark_bit : at r mark_at ≤ 1

-- ---- an arrival at a record, and a take from it

-- the answer, the byte handed out, the signal, and the record that is left
pub record Served : Type 0 where
  pub answer : ℕ
  pub byte : ℕ
  pub signal : ℕ
  pub queue : List ℕ

abbrev pub served : ℕ → ℕ → ℕ → List ℕ → Served
served a b s q = record { answer = a; byte = b; signal = s; queue = q }

-- what an arrival at a record answers, and a take from it
abbrev pub arrived_as : Result (Option Signal) QueueError → List ℕ → Served
arrived_as (Ok signal) q = served 0 0 (signal_number signal) q
arrived_as (Err error) q = served (error_number error) 0 0 q

abbrev pub taken_as : Result TakenByte QueueError → List ℕ → Served
taken_as (Ok taken) q = served 0 taken.byte (signal_number taken.signal) q
taken_as (Err error) q = served (error_number error) 0 0 q

abbrev pub arrived : Arrival → Served
arrived a = served a.answer 0 a.signal (encode_of a.queue)

abbrev pub handed : Taken → Served
handed t = served t.answer t.byte t.signal (encode_of t.queue)

-- 3: the record is not sound, and nothing changes
unfoldable pub arrive_in : List ℕ → Flow → ℕ → Served
arrive_in r f byte = cond (sound_record r) (arrived (arrive_of (decode_of r) f byte)) (served 3 0 0 r)

unfoldable pub take_in : List ℕ → Flow → Served
take_in r f = cond (sound_record r) (handed (take_of (decode_of r) f)) (served 3 0 0 r)

-- ---- numbers that fit

-- what the types of the program say of a queue
pub record Fits (q : Queue) : Type 0 where
  pub size : length q.ring ≡ 80
  pub bytes : (k : ℕ) → at q.ring k < 256
  pub place_fits : q.place < 256
  pub held_fits : q.held < 256
  pub lost_fits : q.lost < 65536

-- and of a record
abbrev pub Bytes : List ℕ → Type 0
Bytes r = (k : ℕ) → at r k < 256
