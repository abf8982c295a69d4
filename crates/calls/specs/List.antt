-- Lists of calls: each gets the memory and the queue record that the last one left.
-- Assumes nothing.
use Rattle.std.specs.Prelude.{List, [], ◌∷◌, ◌++◌, ℕ, take}
use Rattle.rules.specs.Step.{Input}
use Rattle.rules.specs.Chunks.{Chunk}
use Rattle.calls.specs.Memory.{Memory}
use Rattle.calls.specs.Feed.{feed_of}
use Rattle.calls.specs.Line.{arrive_call, take_call}

-- everything that the library keeps for its caller
pub record Board : Type 0 where
  pub memory : Memory
  pub queue : List ℕ

abbrev pub board : Memory → List ℕ → Board
board m q = record { memory = m; queue = q }

-- inputs with their reply room, the bytes of a piece or time that has passed; a byte that arrives; or a byte taken
pub data Call : Type 0 where
  feeds : List Input → ℕ → Call
  arrives : ℕ → Call
  takes : Call

abbrev pub after_call : Board → Call → Board
after_call b (feeds p room) = board (feed_of b.memory p room).left b.queue
after_call b (arrives x) = board b.memory (arrive_call b.memory.state b.queue x).queue
after_call b takes = board b.memory (take_call b.memory.state b.queue).queue

-- the inputs that the answer counts as consumed
abbrev pub consumed_by : Board → Call → List Input
consumed_by b (feeds p room) = take (feed_of b.memory p room).consumed p
consumed_by b (arrives x) = []
consumed_by b takes = []

abbrev pub sent_by : Board → Call → List ℕ
sent_by b (feeds p room) = (feed_of b.memory p room).sent
sent_by b (arrives x) = []
sent_by b takes = []

unfoldable pub after_all : Board → List Call → Board
after_all b [] = b
after_all b (c ∷ cs) = after_all (after_call b c) cs

unfoldable pub consumed_all : Board → List Call → List Input
consumed_all b [] = []
consumed_all b (c ∷ cs) = consumed_by b c ++ consumed_all (after_call b c) cs

unfoldable pub sent_all : Board → List Call → List ℕ
sent_all b [] = []
sent_all b (c ∷ cs) = sent_by b c ++ sent_all (after_call b c) cs

-- the pieces among them, which a stream was cut into
unfoldable pub chunks_in : List Call → List Chunk
chunks_in [] = []
chunks_in (feeds p room ∷ cs) = record { inputs = p; room = room } ∷ chunks_in cs
chunks_in (arrives x ∷ cs) = chunks_in cs
chunks_in (takes ∷ cs) = chunks_in cs
