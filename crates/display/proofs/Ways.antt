-- Every way through start, arrive and take, by itself.
-- Assumes nothing.
use mathlib.Core.Path.{◌≡◌, ◌∙◌, refl, ap}
use mathlib.Core.List.{List, [], ◌∷◌, ◌++◌, append-nil}
use mathlib.Core.Bool.{Bool, true, false, not}
use Prim.Native.Nat.{ℕ, ◌<◌}
use lib.Dec.{leb}
use native.Mathlib.Omega.{arith}
use lib.ListN.{length, take, set, drop_of_length-le}
use lib.Seq.{sets-eq}
use borrow.Author.Tests.{eq-eqb, leb-true, not-true, not-false}
use Rattle.pixels.specs.Framebuffer.{fill}
use Rattle.pixels.specs.Regions.{everywhere}
use Rattle.canvas.specs.Sizes.{is_height, length_for}
use Rattle.scroll.proofs.Bytes.{cleared_zeros}
use Rattle.directory.specs.declared.Totals.{Totals}
use Rattle.directory.specs.Directory.{entries, sizes_in, totals_of, valid_of}
use Rattle.file_laws.proofs.Written.{valid}
use Rattle.queue.specs.declared.Flow.{Flow}
use Rattle.queue.specs.Record.{Served, served, arrive_in, take_in}
use Rattle.state.specs.declared.Config.{Config}
use Rattle.state.specs.declared.State.{State}
use Rattle.state.specs.Editions.{is_edition}
use Rattle.state.specs.State.{start_state}
use Rattle.record.specs.Layout.{record_size}
use Rattle.record.specs.Reading.{decode_of}
use Rattle.record.specs.Writing.{encode_of}
use Rattle.record.specs.Record.{encoded_in, sound_record}
use Rattle.record.proofs.Same.{both}
use Rattle.record.proofs.Whole.{written_whole}
use Rattle.rules.specs.Sound.{store_most}
use Rattle.calls.specs.Memory.{memory, store_fits}
use Rattle.calls.specs.Start.{started, start_checked, start_of, emptied}
use Rattle.calls.specs.Line.{arrive_call, take_call}

-- ---- start

pub emptied_is : (q : List ℕ) → length q ≡ 85 → set (set (set (set (set q 80 0) 81 0) 82 0) 83 0) 84 0 ≡ emptied q
emptied_is q e =
    sets-eq (0 ∷ 0 ∷ 0 ∷ 0 ∷ 0 ∷ []) q 80 (omega (arith, e)) ∙ ap (λ (l : List ℕ). take 80 q ++ (0 ∷ 0 ∷ 0 ∷ 0 ∷ 0 ∷ []) ++ l) (drop_of_length-le q {i = 85} (omega (arith, e)))
    ∙ append-nil (emptied q)

-- two bytes hold what the files of a store use
pub start_used : (s : List ℕ) (t : Totals) → store_fits s ≡ true → valid_of s ≡ true → t ≡ totals_of (entries s) → t.used < 65536
start_used s t fits v et =
    let most = leb-true (length s) store_most (both (leb 1024 (length s)) (leb (length s) store_most) fits).1 in
    omega (arith, ap (λ (x : Totals). x.used) et, (valid s v).room, most)

-- past the checks of what stands before the directory
module _ (h : Config) (g s st q : List ℕ) (tall : is_height h.height ≡ true) (record-size : length st ≡ record_size) (queue-size : length q ≡ 85) (size : length g ≡ length_for h.height) (fits : store_fits s ≡ true) (named : is_edition h.edition ≡ true) where
  pub start_4 : valid_of s ≡ false → started (memory g s st) q 4 ≡ start_of h (memory g s st) q
  unfolding start_of start_checked
  start_4 n = rw (tall, eq-eqb (length st) record_size record-size, eq-eqb (length q) 85 queue-size, eq-eqb (length g) (length_for h.height) size, fits, named, n)

  pub start_0 : (g' st' q' : List ℕ) (t : Totals) (a : State) → valid_of s ≡ true → t ≡ totals_of (entries s) → g' ≡ fill everywhere false g → a ≡ start_state h t.used → st' ≡ encoded_in a st → q' ≡ emptied q
      → started (memory g' s st') q' 0 ≡ start_of h (memory g s st) q
  unfolding start_of start_checked
  start_0 g' st' q' t a n et eg ea es eq =
      let u = sizes_in (entries s) in
      let fresh : a ≡ start_state h u = ea ∙ ap (λ (x : Totals). start_state h x.used) et in
      let wrote : st' ≡ encode_of (start_state h u) =
      es ∙ ap (λ (x : State). encoded_in x st) fresh ∙ written_whole (start_state h u) st (record { args = refl; bars = refl; strips = refl }) record-size in
      rw (
        tall,
        eq-eqb (length st) record_size record-size,
        eq-eqb (length q) 85 queue-size,
        eq-eqb (length g) (length_for h.height) size,
        fits,
        named,
        n,
        eg ∙ cleared_zeros g (length_for h.height) size,
        wrote,
        eq,
      )

-- ---- arrive and take

module _ (st q : List ℕ) (t : Bool) (sound : t ≡ sound_record st) where
  pub arrive_3 : (b : ℕ) → not t ≡ true → served 3 0 0 q ≡ arrive_call st q b
  unfolding arrive_call
  arrive_3 b h = rw (← sound, not-true t h)

  pub take_3 : not t ≡ true → served 3 0 0 q ≡ take_call st q
  unfolding take_call
  take_3 h = rw (← sound, not-true t h)

  module _ (fine : not t ≡ false) (f : Flow) (flow_is : f ≡ (decode_of st).port.flow) where
    pub arrive_queue : (b : ℕ) (x : Served) → x ≡ arrive_in q f b → x ≡ arrive_call st q b
    unfolding arrive_call arrive_in
    arrive_queue b x e = e ∙ rw (← sound, not-false t fine, flow_is)

    pub take_queue : (x : Served) → x ≡ take_in q f → x ≡ take_call st q
    unfolding take_call take_in
    take_queue x e = e ∙ rw (← sound, not-false t fine, flow_is)
