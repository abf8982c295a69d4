-- The queue: a ring buffer of 80 bytes. What an arrival and a take do, and what the queue holds.
-- Both are total: a held count of 80 or more is full, and an index of the ring is taken modulo 80.
-- Assumes nothing.
use Rattle.std.specs.Prelude.{◌≡◌, ℕ, zero, suc, ◌+◌, ◌-◌, ◌%◌, ◌<◌, ◌≤◌, Bool, cond, List, [], ◌∷◌, length, ◌==◌, nat_lt, slice_index, slice_set}
use Rattle.queue.specs.declared.Flow.{Flow}
use Rattle.queue.specs.Watermarks.{after_arrival, after_take}

-- `place` is the index of the oldest byte
pub record Queue : Type 0 where
  pub ring : List ℕ
  pub place : ℕ
  pub held : ℕ
  pub mark : Bool
  pub lost : ℕ

pub record Arrival : Type 0 where
  pub answer : ℕ
  pub signal : ℕ
  pub queue : Queue

pub record Taken : Type 0 where
  pub answer : ℕ
  pub byte : ℕ
  pub signal : ℕ
  pub queue : Queue

abbrev pub queue : List ℕ → ℕ → ℕ → Bool → ℕ → Queue
queue ring place held mark lost = record { ring = ring; place = place; held = held; mark = mark; lost = lost }

abbrev pub arrival : ℕ → ℕ → Queue → Arrival
arrival answer signal q = record { answer = answer; signal = signal; queue = q }

abbrev pub taken : ℕ → ℕ → ℕ → Queue → Taken
taken answer byte signal q = record { answer = answer; byte = byte; signal = signal; queue = q }

-- ---- an arrival

-- the byte is written behind the newest one
unfoldable pub stored : Queue → ℕ → Bool → Queue
stored q byte mark = queue (slice_set q.ring ((q.place + q.held) % 80) byte) q.place (q.held + 1) mark q.lost

-- a dropped byte is counted, from 65535 on to 0, and changes nothing else
unfoldable pub counted : Queue → Queue
counted q = queue q.ring q.place q.held q.mark ((q.lost + 1) % 65536)

-- 0: the byte is accepted. 7: the queue is full, and the byte is dropped
unfoldable pub arrive_of : Queue → Flow → ℕ → Arrival
arrive_of q f byte =
    cond (nat_lt q.held 80)
    (arrival 0 (after_arrival f q.mark (q.held + 1)).signal (stored q byte (after_arrival f q.mark (q.held + 1)).mark))
    (arrival 7 0 (counted q))

-- ---- a take

-- the byte that was held longest
unfoldable pub oldest : Queue → ℕ
oldest q = slice_index q.ring (q.place % 80)

-- the ring stays as it is
unfoldable pub advanced : Queue → Bool → Queue
advanced q mark = queue q.ring ((q.place + 1) % 80) (q.held - 1) mark q.lost

-- 0: a byte is handed out. 6: the queue is empty, and nothing changes
unfoldable pub take_of : Queue → Flow → Taken
take_of q f =
    cond (q.held == 0) (taken 6 0 0 q)
    (taken 0 (oldest q) (after_take f q.mark (q.held - 1)).signal (advanced q (after_take f q.mark (q.held - 1)).mark))

-- ---- what it holds

pub record Sound (q : Queue) : Type 0 where
  pub size : length q.ring ≡ 80
  pub below : q.place < 80
  pub most : q.held ≤ 80

-- n bytes of a ring from index p on, around its end
unfoldable pub around : List ℕ → ℕ → ℕ → List ℕ
around ring p zero = []
around ring p (suc n) = slice_index ring (p % 80) ∷ around ring (p + 1) n

-- the held bytes, oldest first
unfoldable pub contents : Queue → List ℕ
contents q = around q.ring q.place q.held
