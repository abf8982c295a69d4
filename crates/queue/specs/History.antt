-- Lists of operations on a queue, and what they leave behind: bytes handed out, accepted and dropped, and signals sent.
-- Assumes nothing.
use Rattle.std.specs.Prelude.{ℕ, ◌+◌, cond, List, [], ◌∷◌, ◌++◌, ◌==◌}
use Rattle.queue.specs.declared.Flow.{Flow}
use Rattle.queue.specs.Queue.{Queue, arrive_of, take_of}

pub data Op : Type 0 where
  arrives : Flow → ℕ → Op
  takes : Flow → Op

-- ---- one operation

abbrev pub after : Queue → Op → Queue
after q (arrives f b) = (arrive_of q f b).queue
after q (takes f) = (take_of q f).queue

abbrev pub signal : Queue → Op → ℕ
signal q (arrives f b) = (arrive_of q f b).signal
signal q (takes f) = (take_of q f).signal

-- the byte of a take that is answered with 0
abbrev pub handed : Queue → Op → List ℕ
handed q (arrives f b) = []
handed q (takes f) = cond ((take_of q f).answer == 0) ((take_of q f).byte ∷ []) []

-- the byte of an arrival that is answered with 0
abbrev pub accepted : Queue → Op → List ℕ
accepted q (arrives f b) = cond ((arrive_of q f b).answer == 0) (b ∷ []) []
accepted q (takes f) = []

-- 1 for an arrival that is answered with 7
abbrev pub dropped : Queue → Op → ℕ
dropped q (arrives f b) = cond ((arrive_of q f b).answer == 7) 1 0
dropped q (takes f) = 0

-- ---- a list of them, first to last

unfoldable pub after_all : Queue → List Op → Queue
after_all q [] = q
after_all q (o ∷ l) = after_all (after q o) l

unfoldable pub handed_all : Queue → List Op → List ℕ
handed_all q [] = []
handed_all q (o ∷ l) = handed q o ++ handed_all (after q o) l

unfoldable pub accepted_all : Queue → List Op → List ℕ
accepted_all q [] = []
accepted_all q (o ∷ l) = accepted q o ++ accepted_all (after q o) l

unfoldable pub dropped_all : Queue → List Op → ℕ
dropped_all q [] = 0
dropped_all q (o ∷ l) = dropped q o + dropped_all (after q o) l

-- one number for each operation, 0 where none was sent
unfoldable pub signals : Queue → List Op → List ℕ
signals q [] = []
signals q (o ∷ l) = signal q o ∷ signals (after q o) l

-- ---- of a list of signals

-- how often n stands in it
unfoldable pub count : ℕ → List ℕ → ℕ
count n [] = 0
count n (s ∷ l) = cond (s == n) 1 0 + count n l

-- the last that was sent, and s where none was
unfoldable pub latest : ℕ → List ℕ → ℕ
latest s [] = s
latest s (x ∷ l) = latest (cond (x == 0) s x) l
