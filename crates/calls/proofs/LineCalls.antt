-- The serial line: a call after a call finds a sound queue record, and the start leaves one.
-- Assumes nothing.
use mathlib.Core.Path.{◌≡◌}
use mathlib.Core.Bool.{true, false}
use mathlib.Core.List.{List}
use Prim.Native.Nat.{ℕ}
use native.Mathlib.Omega.{arith}
use lib.ListN.{length, take, length-take}
use Rattle.queue.specs.Queue.{queue, arrive_of, take_of}
use Rattle.queue.specs.Record.{sound_record, decode_of, encode_of}
use Rattle.queue.proofs.Contents.{arrival_sound, take_sound}
use Rattle.queue.proofs.Round.{decoded_sound, encoded_sound}
use Rattle.record.specs.Record as state-record
use Rattle.record.proofs.Same.{both}
use Rattle.calls.specs.Start.{emptied}
use Rattle.calls.specs.Line.{both_sound, flow_in, served, arrive_call, take_call}

pub queue_sound : (r q : List ℕ) → both_sound r q ≡ true → sound_record q ≡ true
queue_sound r q e = (both (state-record.sound_record r) (sound_record q) e).1

pub arrive_again : (r q : List ℕ) (b : ℕ) → both_sound r q ≡ true → sound_record (arrive_call r q b).queue ≡ true
unfolding arrive_call
arrive_again r q b e =
    rw e (encoded_sound (arrive_of (decode_of q) (flow_in r) b).queue (arrival_sound (decode_of q) (flow_in r) b (decoded_sound q (queue_sound r q e))))

pub take_again : (r q : List ℕ) → both_sound r q ≡ true → sound_record (take_call r q).queue ≡ true
unfolding take_call
take_again r q e = rw e (encoded_sound (take_of (decode_of q) (flow_in r)).queue (take_sound (decode_of q) (flow_in r) (decoded_sound q (queue_sound r q e))))

-- refused with 3 nothing is stored or handed out, and the record stays
pub arrive_refused : (r q : List ℕ) (b : ℕ) → both_sound r q ≡ false → arrive_call r q b ≡ served 3 0 0 q
unfolding arrive_call
arrive_refused r q b e = rw e

pub take_refused : (r q : List ℕ) → both_sound r q ≡ false → take_call r q ≡ served 3 0 0 q
unfolding take_call
take_refused r q e = rw e

pub emptied_sound : (q : List ℕ) → length q ≡ 85 → sound_record (emptied q) ≡ true
unfolding encode_of
emptied_sound q e =
    encoded_sound (queue (take 80 q) 0 0 false 0) (record { size = rw (length-take 80 q) (omega (arith, e)); below = omega arith; most = omega arith })
