-- WHAT IS PROMISED of every list of calls, as one claim.
-- Assumes nothing.
use Rattle.std.specs.Prelude.{◌≡◌, List, true, ℕ, ◌+◌, ◌%◌, take}
use Rattle.refusals.specs.Refusals.{no_glyph}
use Rattle.pixels.specs.Framebuffer.{pixel}
use Rattle.bar_graph.specs.declared.Bar.{Bar}
use Rattle.bar_graph.specs.Bars.{rectangle_of, full_picture}
use Rattle.bar_ledger.specs.Claim.{ledger_at, Agrees}
use Rattle.bar_ledger.specs.Since.{SinceZero}
use Rattle.queue.specs.Record as queue-record
use Rattle.directory.specs.Directory.{entries, sizes_in}
use Rattle.record.specs.Reading.{config_in, used_in, decode_of}
use Rattle.state.specs.State.{bar_at}
use Rattle.rules.specs.World.{port, panel}
use Rattle.rules.specs.Step.{step}
use Rattle.rules.specs.Calls.{run, said}
use Rattle.rules.specs.Chunks.{joined}
use Rattle.rules.specs.Events.{view, event}
use Rattle.rules.specs.History.{refused_of, last_of}
use Rattle.rules.specs.Sound.{TrueSum}
use Rattle.calls.specs.Memory.{checked, loaded, saved}
use Rattle.calls.specs.Line.{both_sound}
use Rattle.calls.specs.List.{Board, chunks_in}
use Rattle.promises.specs.Made.{Made, left_all, all_consumed, all_sent, calls_of}
use Rattle.promises.specs.Answers.{AnswersAll}

-- each pixel of a bar's rectangle is black exactly when it is black in the full picture of its type, corners and value
pub record ShowsWhole (b : Bar) (g : List ℕ) : Type 0 where
  pub pixels : (x y : ℕ) → rectangle_of b x y ≡ true → pixel g x y ≡ full_picture b b.value x y

-- the used room that a board's record keeps is the directory's own sum of file sizes
pub record UsedRoom (b : Board) : Type 0 where
  pub true_sum : used_in b.memory.state ≡ sizes_in (entries b.memory.store)

pub record Promise (b : Board) (l : List Made) : Type 0 where
  -- each call's answer is the rules' one
  pub answers : AnswersAll b l
  -- the memory is what the inputs consumed leave, and what was sent is what they send: one stream, however it was cut
  pub stream : (left_all b l).memory ≡ saved (run (loaded b.memory) (all_consumed l))
  pub sent : all_sent l ≡ said (loaded b.memory) (all_consumed l)
  -- DEMAND 3, about the whole list: after every input each known bar shows its full picture, a write that is not 0 changes only pixels in
  -- which the two full pictures differ, and no pixel outside its footprint changes
  pub bars : Agrees view step event (loaded b.memory) (all_consumed l)
  -- a known bar's rectangle lies on the framebuffer, so that every pixel of it counts
  pub shown : (n i : ℕ) → (ledger_at view step event (loaded b.memory) (all_consumed l) n i).known ≡ true
      → ShowsWhole (ledger_at view step event (loaded b.memory) (all_consumed l) n i).bar (run (loaded b.memory) (take n (all_consumed l))).framebuffer
  -- and in the request's own words, of the memory as the last call left it
  pub since_zero : (i : ℕ) → SinceZero view step event (loaded b.memory) (all_consumed l) i
      → ShowsWhole (bar_at (panel (loaded (left_all b l).memory)) i).bar (left_all b l).memory.framebuffer
  -- the refusal count and the last refusal are the stream's
  pub count : (decode_of (left_all b l).memory.state).port.refusals.count ≡ ((port (loaded b.memory)).refusals.count + refused_of (loaded b.memory) (all_consumed l)) % 65536
  pub last : (decode_of (left_all b l).memory.state).port.refusals.last ≡ last_of (loaded b.memory) (all_consumed l) (port (loaded b.memory)).refusals.last
  -- no refusal has number 28, so that it is the last one only where it was before
  pub never_28 : ((port (loaded b.memory)).refusals.last ≡ no_glyph → ⊥) → (decode_of (left_all b l).memory.state).port.refusals.last ≡ no_glyph → ⊥
  -- height and edition stay
  pub config : config_in (left_all b l).memory.state ≡ config_in b.memory.state
  -- the used room is true, after the list and after every input
  pub used : UsedRoom (left_all b l)
  pub used_along : (n : ℕ) → TrueSum (run (loaded b.memory) (take n (all_consumed l)))
  -- the next call is not refused with 1 to 4; an arrival or a take is not where the queue record was sound
  pub again : checked (left_all b l).memory ≡ 0
  pub line_again : queue-record.sound_record b.queue ≡ true → both_sound (left_all b l).memory.state (left_all b l).queue ≡ true

-- a stream that was handed in as the pieces and the times of these calls: all of it is consumed, and memory and replies are the whole stream's
pub record Whole (b : Board) (l : List Made) : Type 0 where
  pub consumed : all_consumed l ≡ joined (chunks_in (calls_of l))
  pub memory : (left_all b l).memory ≡ saved (run (loaded b.memory) (joined (chunks_in (calls_of l))))
  pub sent : all_sent l ≡ said (loaded b.memory) (joined (chunks_in (calls_of l)))
