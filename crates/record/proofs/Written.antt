-- What `encode` leaves in a slice of any length.
-- Assumes nothing.
use mathlib.Core.Path.{◌≡◌, ap, ◌∙◌}
use mathlib.Core.List.{List, ◌++◌}
use Prim.Native.Nat.{ℕ, ◌+◌, ◌-◌, ◌<◌, ◌≤◌}
use native.Mathlib.Omega.{arith}
use lib.ListN.{length, take, drop, length-append, length-take, length-drop, get_or-append}
use lib.Seq.{take_all, get_or-take, get_or-drop, get_or-append-add}
use Rattle.queue.specs.Record.{at}
use Rattle.state.specs.declared.State.{State}
use Rattle.record.specs.Layout.{record_size}
use Rattle.record.specs.Writing.{encode_of}
use Rattle.record.specs.Record.{encoded_in}
use Rattle.state.specs.Fits.{Fits}
use Rattle.record.proofs.Round.{length-encode}

module _ (s : State) (g : List ℕ) (f : Fits s) where
  pub written_long : length (encoded_in s g) ≡ length g
  unfolding encoded_in
  written_long = simp (length-append, length-take, length-drop) (omega (arith, length-encode s f))

  pub written_front : (k : ℕ) → k < record_size → k < length g → at (encoded_in s g) k ≡ at (encode_of s) k
  unfolding encoded_in
  written_front k h l =
      let m : k < length (take (length g) (encode_of s)) = simp length-take (omega (arith, length-encode s f)) in
      get_or-append (take (length g) (encode_of s)) (drop record_size g) 0 k m ∙ get_or-take (length g) (encode_of s) k 0 l

  -- every byte behind the record stays
  pub written_rest : (k : ℕ) → record_size ≤ k → k < length g → at (encoded_in s g) k ≡ at g k
  unfolding encoded_in
  written_rest k h l =
      let t : take (length g) (encode_of s) ≡ encode_of s = take_all (length g) (encode_of s) (omega (arith, length-encode s f)) in
      let d : k ≡ length (encode_of s) + (k - record_size) = omega (arith, length-encode s f) in
      let e : record_size + (k - record_size) ≡ k = omega arith in
      rw t (ap (at (encode_of s ++ drop record_size g)) d ∙ get_or-append-add (encode_of s) (drop record_size g) (k - record_size) 0 ∙ get_or-drop record_size g (k - record_size) 0 ∙ ap (at g) e)
