-- What is promised of a list of calls, in memory as a caller lends it.
-- Assumes nothing.
use Rattle.std.specs.Prelude.{◌≡◌, true, List, ℕ, ◌+◌, ◌%◌, length, take}
use Rattle.refusals.specs.Refusals.{no_glyph}
use Rattle.pixels.specs.Framebuffer.{On}
use Rattle.bar_graph.specs.Bars.{rectangle_of}
use Rattle.bar_ledger.specs.Claim.{Agrees}
use Rattle.queue.specs.Record as queue-record
use Rattle.directory.specs.Directory.{entries, sizes_in}
use Rattle.record.specs.Reading.{config_in, used_in, decode_of}
use Rattle.state.specs.State.{bar_at}
use Rattle.rules.specs.World.{port, panel}
use Rattle.rules.specs.Step.{step}
use Rattle.rules.specs.Calls.{run, said}
use Rattle.rules.specs.Events.{view, event}
use Rattle.rules.specs.History.{refused_of, last_of}
use Rattle.rules.specs.Sound.{TrueSum}
use Rattle.calls.specs.Memory.{checked, loaded, saved}
use Rattle.calls.specs.Line.{both_sound}
use Rattle.calls.specs.List.{Board, Call, after_all, consumed_all, sent_all}

-- WHAT HOLDS AFTER A LIST OF CALLS
pub record Served (b : Board) (cs : List Call) : Type 0 where
  -- the memory is what the inputs consumed leave, and what was sent is what they send: one stream, however it was cut
  pub stream : (after_all b cs).memory ≡ saved (run (loaded b.memory) (consumed_all b cs))
  pub reads : loaded (after_all b cs).memory ≡ run (loaded b.memory) (consumed_all b cs)
  pub sent : sent_all b cs ≡ said (loaded b.memory) (consumed_all b cs)
  -- demand 3, after them all and after every input
  pub bars : Agrees view step event (loaded b.memory) (consumed_all b cs)
  -- every bar's rectangle lies on the framebuffer
  pub inside : (n i x y : ℕ) → rectangle_of (bar_at (panel (run (loaded b.memory) (take n (consumed_all b cs)))) i).bar x y ≡ true
      → On (length (run (loaded b.memory) (take n (consumed_all b cs))).framebuffer) x y
  -- the history of refusals
  pub count : (decode_of (after_all b cs).memory.state).port.refusals.count ≡ ((port (loaded b.memory)).refusals.count + refused_of (loaded b.memory) (consumed_all b cs)) % 65536
  pub last : (decode_of (after_all b cs).memory.state).port.refusals.last ≡ last_of (loaded b.memory) (consumed_all b cs) (port (loaded b.memory)).refusals.last
  -- no refusal has number 28, so that it is the last one only where it was before
  pub never_28 : ((port (loaded b.memory)).refusals.last ≡ no_glyph → ⊥) → (decode_of (after_all b cs).memory.state).port.refusals.last ≡ no_glyph → ⊥
  -- height and edition stay
  pub config : config_in (after_all b cs).memory.state ≡ config_in b.memory.state
  -- the used room that the record keeps is the directory's own sum, after them all and after every input
  pub used : used_in (after_all b cs).memory.state ≡ sizes_in (entries (after_all b cs).memory.store)
  pub used_along : (n : ℕ) → TrueSum (run (loaded b.memory) (take n (consumed_all b cs)))
  -- the next call passes the checks again: a piece, and an arrival or a take
  pub again : checked (after_all b cs).memory ≡ 0
  pub line_again : queue-record.sound_record b.queue ≡ true → both_sound (after_all b cs).memory.state (after_all b cs).queue ≡ true
