-- Worked examples, by computing.
-- Assumes nothing.
use Rattle.std.proofs.Common.{◌≡◌, ℕ, Bool, true, false, List, [], ◌∷◌, ◌++◌, replicate, refl}
use Rattle.queue.specs.declared.Flow.{Flow}
use Rattle.queue.specs.Watermarks.{high_water, low_water, while_on}
use Rattle.queue.specs.Queue.{Queue, queue, arrival, taken, stored, counted, arrive_of, oldest, advanced, take_of, around, contents}
use Rattle.queue.specs.Record.{bytes_from, decode_of, sound_record}
use Rattle.queue.specs.History.{Op, arrives, takes, after_all, handed_all, signals}

abbrev pub flow : Bool → Flow
flow on = record { on = on; full = 40; empty = 39 }

-- the ring holds zeros
abbrev pub start : ℕ → ℕ → Bool → ℕ → Queue
start place held mark lost = queue (replicate 80 0) place held mark lost

abbrev pub arrivals : ℕ → List Op
arrivals n = replicate n (arrives (flow true) 7)

-- ---- signals, with 40 bytes free and 39 bytes held as thresholds

-- byte 40 sends 254, and no other; the mark is up from then on
pub fortieth : signals (start 0 0 false 0) (arrivals 80) ≡ replicate 39 0 ++ (254 ∷ replicate 40 0)
unfolding signals arrive_of stored counted high_water while_on
fortieth = refl

-- from 40 held, with the mark up, the first take sends 255, and the second nothing
pub first_take : signals (start 0 40 true 0) (takes (flow true) ∷ takes (flow true) ∷ []) ≡ 255 ∷ 0 ∷ []
unfolding signals take_of advanced oldest low_water while_on
first_take = refl

-- from 41 held, the second
pub second_take : signals (start 0 41 true 0) (takes (flow true) ∷ takes (flow true) ∷ []) ≡ 0 ∷ 255 ∷ []
unfolding signals take_of advanced oldest low_water while_on
second_take = refl

-- with flow control off an arrival and a take lower the mark, and send nothing
pub off_arrival : arrive_of (start 3 50 true 0) (flow false) 0 ≡ arrival 0 0 (start 3 51 false 0)
unfolding arrive_of stored high_water while_on
off_arrival = refl

pub off_take : take_of (start 3 20 true 0) (flow false) ≡ taken 0 0 0 (start 4 19 false 0)
unfolding take_of advanced oldest low_water while_on
off_take = refl

-- ---- refusals

-- at a full queue the byte is dropped: the mark stays, whatever the flow, and the lost count rolls over
pub rolls_over : arrive_of (start 3 80 true 65535) (flow false) 9 ≡ arrival 7 0 (start 3 80 true 0)
unfolding arrive_of counted
rolls_over = refl

pub nothing_held : take_of (start 3 0 true 5) (flow false) ≡ taken 6 0 0 (start 3 0 true 5)
unfolding take_of
nothing_held = refl

-- ---- around the end of the ring

abbrev pub turn : List Op
turn = arrives (flow true) 1 ∷ arrives (flow true) 2 ∷ takes (flow true) ∷ arrives (flow true) 3 ∷ []

pub turned : contents (after_all (start 79 0 false 0) turn) ≡ 2 ∷ 3 ∷ []
unfolding after_all contents around arrive_of stored take_of advanced oldest high_water low_water while_on
turned = refl

pub turned_out : handed_all (start 79 0 false 0) turn ≡ 1 ∷ []
unfolding handed_all arrive_of stored take_of advanced oldest high_water low_water while_on
turned_out = refl

-- ---- records

pub record_back : decode_of (replicate 80 5 ++ (79 ∷ 80 ∷ 1 ∷ 255 ∷ 1 ∷ [])) ≡ queue (replicate 80 5) 79 80 true 511
unfolding decode_of bytes_from
record_back = refl

pub record_sound : sound_record (replicate 80 5 ++ (79 ∷ 80 ∷ 1 ∷ 255 ∷ 1 ∷ [])) ≡ true
unfolding sound_record
record_sound = refl

pub record_place : sound_record (replicate 80 5 ++ (80 ∷ 80 ∷ 1 ∷ 255 ∷ 1 ∷ [])) ≡ false
unfolding sound_record
record_place = refl
