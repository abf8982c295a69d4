-- Calls that were made of the exported functions, each with what it was lent and what it left. What a call leaves is what its contract says:
-- `Meets` has, for each function, the equation that stands in its contract.
-- Assumes nothing.
use Rattle.std.specs.Prelude.{◌≡◌, List, [], ◌∷◌, ◌++◌, false, cond, ℕ, ◌+◌, eqb, length, take}
use Rattle.state.specs.declared.Config.{Config}
use Rattle.rules.specs.Step.{Input, time}
use Rattle.rules.specs.Calls.{bytes}
use Rattle.calls.specs.Memory.{Memory, memory, checked}
use Rattle.calls.specs.Start.{Started, start_checked, start_of}
use Rattle.calls.specs.Line.{Served, both_sound, arrive_call, take_call}
use Rattle.calls.specs.List.{Board, board, Call, feeds, arrives, takes}
use Rattle.feed.specs.Called.{Called, feed_call, Timed, time_call}

-- ---- what is lent

-- in the place of one of the display's own slices: that very slice, or another one, of any length and content
pub data Slice : Type 0 where
  own : Slice
  other : List ℕ → Slice

abbrev pub lent : Slice → List ℕ → List ℕ
lent own g = g
lent (other h) g = h

-- the display's own slice g after a call that left k in what it was lent
abbrev pub returned : Slice → List ℕ → List ℕ → List ℕ
returned own g k = k
returned (other h) g k = g

pub record Slices : Type 0 where
  pub framebuffer : Slice
  pub store : Slice
  pub state : Slice

abbrev pub lent_memory : Slices → Memory → Memory
lent_memory z m = memory (lent z.framebuffer m.framebuffer) (lent z.store m.store) (lent z.state m.state)

abbrev pub returned_memory : Slices → Memory → Memory → Memory
returned_memory z m n =
    memory (returned z.framebuffer m.framebuffer n.framebuffer) (returned z.store m.store n.store) (returned z.state m.state n.state)

-- ---- the calls

pub data Made : Type 0 where
  -- display_feed of a piece with these reply bytes, display_time of milliseconds with these, display_arrive of a byte, and display_take, lent the
  -- display's own memory
  fed : List ℕ → List ℕ → Called → Made
  timed : ℕ → List ℕ → Timed → Made
  arrived : ℕ → Served → Made
  handed : Served → Made
  -- calls refused with 1 to 4 may come between, lent whatever it be: display_feed, display_time, display_arrive, display_take, display_start
  refused_feed : Slices → List ℕ → List ℕ → Called → Made
  refused_time : Slices → ℕ → List ℕ → Timed → Made
  refused_arrive : Slice → Slice → ℕ → Served → Made
  refused_take : Slice → Slice → Served → Made
  refused_start : Config → Slices → Slice → Started → Made

abbrev pub Meets : Board → Made → Type 0
Meets b (fed p r c) = c ≡ feed_call b.memory p r
Meets b (timed ms r c) = c ≡ time_call b.memory ms r
Meets b (arrived x s) = s ≡ arrive_call b.memory.state b.queue x
Meets b (handed s) = s ≡ take_call b.memory.state b.queue
Meets b (refused_feed z p r c) = (c ≡ feed_call (lent_memory z b.memory) p r) × (eqb (checked (lent_memory z b.memory)) 0 ≡ false)
Meets b (refused_time z ms r c) = (c ≡ time_call (lent_memory z b.memory) ms r) × (eqb (checked (lent_memory z b.memory)) 0 ≡ false)
Meets b (refused_arrive t k x s) =
    (s ≡ arrive_call (lent t b.memory.state) (lent k b.queue) x) × (both_sound (lent t b.memory.state) (lent k b.queue) ≡ false)
Meets b (refused_take t k s) =
    (s ≡ take_call (lent t b.memory.state) (lent k b.queue)) × (both_sound (lent t b.memory.state) (lent k b.queue) ≡ false)
Meets b (refused_start d z k s) =
    (s ≡ start_of d (lent_memory z b.memory) (lent k b.queue)) × (eqb (start_checked d (lent_memory z b.memory) (lent k b.queue)) 0 ≡ false)

-- the board after it: each slice of its own that was lent holds what the call left there
abbrev pub left : Board → Made → Board
left b (fed p r c) = board c.left b.queue
left b (timed ms r c) = board c.left b.queue
left b (arrived x s) = board b.memory s.queue
left b (handed s) = board b.memory s.queue
left b (refused_feed z p r c) = board (returned_memory z b.memory c.left) b.queue
left b (refused_time z ms r c) = board (returned_memory z b.memory c.left) b.queue
left b (refused_arrive t k x s) = board b.memory (returned k b.queue s.queue)
left b (refused_take t k s) = board b.memory (returned k b.queue s.queue)
left b (refused_start d z k s) = board (returned_memory z b.memory s.left) (returned k b.queue s.queue)

-- each finds what the last one left
unfoldable pub MeetsAll : Board → List Made → Type 0
MeetsAll b [] = Unit {0}
MeetsAll b (c ∷ l) = Meets b c × MeetsAll (left b c) l

unfoldable pub left_all : Board → List Made → Board
left_all b [] = b
left_all b (c ∷ l) = left_all (left b c) l

-- ---- their history

-- the inputs that are consumed by the answers, and the bytes sent: of a piece as many bytes as are counted, and the time of a call answered 0
abbrev pub consumed : Made → List Input
consumed (fed p r c) = take c.consumed (bytes p)
consumed (timed ms r c) = cond (eqb c.answer 0) (time ms ∷ []) []
consumed (arrived x s) = []
consumed (handed s) = []
consumed (refused_feed z p r c) = take c.consumed (bytes p)
consumed (refused_time z ms r c) = cond (eqb c.answer 0) (time ms ∷ []) []
consumed (refused_arrive t k x s) = []
consumed (refused_take t k s) = []
consumed (refused_start d z k s) = []

abbrev pub sent : Made → List ℕ
sent (fed p r c) = take c.replied c.replies
sent (timed ms r c) = take c.replied c.replies
sent (arrived x s) = []
sent (handed s) = []
sent (refused_feed z p r c) = take c.replied c.replies
sent (refused_time z ms r c) = take c.replied c.replies
sent (refused_arrive t k x s) = []
sent (refused_take t k s) = []
sent (refused_start d z k s) = []

unfoldable pub all_consumed : List Made → List Input
all_consumed [] = []
all_consumed (c ∷ l) = consumed c ++ all_consumed l

unfoldable pub all_sent : List Made → List ℕ
all_sent [] = []
all_sent (c ∷ l) = sent c ++ all_sent l

-- the same list as calls of the definitions, those refused with 1 to 4 left out
unfoldable pub calls_of : List Made → List Call
calls_of [] = []
calls_of (fed p r c ∷ l) = feeds (bytes p) (length r) ∷ calls_of l
calls_of (timed ms r c ∷ l) = feeds (time ms ∷ []) (length r) ∷ calls_of l
calls_of (arrived x s ∷ l) = arrives x ∷ calls_of l
calls_of (handed s ∷ l) = takes ∷ calls_of l
calls_of (refused_feed z p r c ∷ l) = calls_of l
calls_of (refused_time z ms r c ∷ l) = calls_of l
calls_of (refused_arrive t k x s ∷ l) = calls_of l
calls_of (refused_take t k s ∷ l) = calls_of l
calls_of (refused_start d z k s ∷ l) = calls_of l

-- bytes dropped: arrivals that answered 7
abbrev pub dropped : Made → ℕ
dropped (fed p r c) = 0
dropped (timed ms r c) = 0
dropped (arrived x s) = cond (eqb s.answer 7) 1 0
dropped (handed s) = 0
dropped (refused_feed z p r c) = 0
dropped (refused_time z ms r c) = 0
dropped (refused_arrive t k x s) = cond (eqb s.answer 7) 1 0
dropped (refused_take t k s) = 0
dropped (refused_start d z k s) = 0

unfoldable pub all_dropped : List Made → ℕ
all_dropped [] = 0
all_dropped (c ∷ l) = dropped c + all_dropped l
