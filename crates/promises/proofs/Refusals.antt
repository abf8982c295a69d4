-- DEMAND 1 of the exported functions: a refused call changes what the table names. Of a refused command: `demand_1` of the rules.
-- Assumes nothing.
use mathlib.Core.Path.{◌≡◌, ◌∙◌, ap}
use mathlib.Core.List.{List}
use mathlib.Core.Bool.{true, false}
use Prim.Native.Nat.{ℕ, ◌≤◌}
use lib.Dec.{eqb}
use borrow.Author.Tests.{eq-eqb, le-ltb}
use Rattle.queue.specs.Queue.{counted, arrive_of, take_of}
use Rattle.queue.specs.Record.{Bytes, decode_of, encode_of}
use Rattle.queue.proofs.Round.{encode_decode}
use Rattle.calls.specs.Memory.{Memory, checked}
use Rattle.calls.specs.Feed.{feed_of}
use Rattle.calls.specs.Start.{Started, started, start_checked, start_of}
use Rattle.calls.specs.Line.{Served, served, both_sound, arrive_call, take_call}
use Rattle.calls.proofs.LineCalls as line
use Rattle.state.specs.declared.Config.{Config}
use Rattle.feed.specs.Called.{Called, called, inputs_call, feed_call, Timed, timed, time_call}

-- 1 to 4 of a piece: every lent byte stays, nothing is consumed, nothing replied
pub refused_feed_lem : (m : Memory) (p r : List ℕ) (c : Called) → c ≡ feed_call m p r → eqb (checked m) 0 ≡ false → c ≡ called (checked m) m r 0 0
unfolding inputs_call feed_of
refused_feed_lem m p r c e f = e ∙ rw f

-- and of time
pub refused_time_lem : (m : Memory) (ms : ℕ) (r : List ℕ) (c : Timed) → c ≡ time_call m ms r → eqb (checked m) 0 ≡ false → c ≡ timed (checked m) m r 0
unfolding inputs_call feed_of
refused_time_lem m ms r c e f = e ∙ rw f

-- 1 to 4 of a start: every lent byte stays
pub refused_start_lem : (d : Config) (m : Memory) (q : List ℕ) (s : Started) → s ≡ start_of d m q → eqb (start_checked d m q) 0 ≡ false → s ≡ started m q (start_checked d m q)
unfolding start_of
refused_start_lem d m q s e f = e ∙ rw f

-- 3 of an arrival and of a take
pub refused_arrive_lem : (st q : List ℕ) (b : ℕ) (s : Served) → s ≡ arrive_call st q b → both_sound st q ≡ false → s ≡ served 3 0 0 q
refused_arrive_lem st q b s e f = e ∙ line.arrive_refused st q b f

pub refused_take_lem : (st q : List ℕ) (s : Served) → s ≡ take_call st q → both_sound st q ≡ false → s ≡ served 3 0 0 q
refused_take_lem st q s e f = e ∙ line.take_refused st q f

-- 6 of a take: nothing changes
pub empty_take : (st q : List ℕ) (s : Served) → s ≡ take_call st q → Bytes q → both_sound st q ≡ true → (decode_of q).held ≡ 0 → s ≡ served 6 0 0 q
unfolding take_call take_of
empty_take st q s e b f h = e ∙ rw (f, eq-eqb (decode_of q).held 0 h) (ap (served 6 0 0) (encode_decode q b (line.queue_sound st q f)))

-- 7 of an arrival: the byte is dropped, and the lost count alone goes up
pub full_arrive : (st q : List ℕ) (b : ℕ) (s : Served) → s ≡ arrive_call st q b → both_sound st q ≡ true → 80 ≤ (decode_of q).held → s ≡ served 7 0 0 (encode_of (counted (decode_of q)))
unfolding arrive_call arrive_of
full_arrive st q b s e f h = e ∙ rw (f, le-ltb (decode_of q).held 80 h)
