-- Calls refused with 1 to 4 leave the display's memory as it was, by their contracts, whatever they were lent.
-- Assumes nothing.
use mathlib.Core.Path.{◌≡◌, ◌∙◌, refl, ap}
use mathlib.Core.List.{List}
use Prim.Native.Nat.{ℕ}
use Rattle.calls.specs.Memory.{Memory}
use Rattle.calls.specs.Start.{Started}
use Rattle.calls.specs.Line.{Served}
use Rattle.calls.specs.List.{Board, board}
use Rattle.state.specs.declared.Config.{Config}
use Rattle.feed.specs.Called.{Called, Timed}
use Rattle.promises.specs.Made.{Slice, own, other, lent, returned, Slices, lent_memory, returned_memory, Meets, left, refused_feed, refused_time, refused_arrive, refused_take, refused_start}
use Rattle.promises.proofs.Refusals.{refused_feed_lem, refused_time_lem, refused_start_lem, refused_arrive_lem, refused_take_lem}

-- a slice that comes back as it was lent
returned_lent : (z : Slice) (g : List ℕ) → returned z g (lent z g) ≡ g
returned_lent own g = refl
returned_lent (other h) g = refl

memory_lent : (z : Slices) (m : Memory) → returned_memory z m (lent_memory z m) ≡ m
memory_lent z m = rw (returned_lent z.framebuffer m.framebuffer, returned_lent z.store m.store, returned_lent z.state m.state)

module _ (b : Board) where
  pub feed_unmoved : (z : Slices) (p r : List ℕ) (c : Called) → Meets b (refused_feed z p r c) → left b (refused_feed z p r c) ≡ b
  feed_unmoved z p r c h =
      let e = refused_feed_lem (lent_memory z b.memory) p r c h.0 h.1 in
      ap (λ (x : Called). board (returned_memory z b.memory x.left) b.queue) e ∙ ap (λ (m : Memory). board m b.queue) (memory_lent z b.memory)

  pub time_unmoved : (z : Slices) (ms : ℕ) (r : List ℕ) (c : Timed) → Meets b (refused_time z ms r c) → left b (refused_time z ms r c) ≡ b
  time_unmoved z ms r c h =
      let e = refused_time_lem (lent_memory z b.memory) ms r c h.0 h.1 in
      ap (λ (x : Timed). board (returned_memory z b.memory x.left) b.queue) e ∙ ap (λ (m : Memory). board m b.queue) (memory_lent z b.memory)

  pub arrive_unmoved : (t k : Slice) (x : ℕ) (s : Served) → Meets b (refused_arrive t k x s) → left b (refused_arrive t k x s) ≡ b
  arrive_unmoved t k x s h =
      let e = refused_arrive_lem (lent t b.memory.state) (lent k b.queue) x s h.0 h.1 in
      ap (λ (y : Served). board b.memory (returned k b.queue y.queue)) e ∙ ap (board b.memory) (returned_lent k b.queue)

  pub take_unmoved : (t k : Slice) (s : Served) → Meets b (refused_take t k s) → left b (refused_take t k s) ≡ b
  take_unmoved t k s h =
      let e = refused_take_lem (lent t b.memory.state) (lent k b.queue) s h.0 h.1 in
      ap (λ (y : Served). board b.memory (returned k b.queue y.queue)) e ∙ ap (board b.memory) (returned_lent k b.queue)

  pub start_unmoved : (d : Config) (z : Slices) (k : Slice) (s : Started) → Meets b (refused_start d z k s) → left b (refused_start d z k s) ≡ b
  start_unmoved d z k s h =
      let e = refused_start_lem d (lent_memory z b.memory) (lent k b.queue) s h.0 h.1 in
      ap (λ (y : Started). board (returned_memory z b.memory y.left) (returned k b.queue y.queue)) e ∙ rw (memory_lent z b.memory, returned_lent k b.queue)
