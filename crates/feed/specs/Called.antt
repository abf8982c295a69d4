-- What a piece, and time that has passed, leave in everything that is lent.
-- Assumes nothing.
use Rattle.std.specs.Prelude.{List, [], ◌∷◌, ◌++◌, ℕ, length, drop}
use Rattle.rules.specs.Step.{Input, time}
use Rattle.rules.specs.Calls.{bytes}
use Rattle.calls.specs.Memory.{Memory}
use Rattle.calls.specs.Feed.{Fed, feed_of}

-- the answer, and the later contents of every lent byte
pub record Called : Type 0 where
  pub answer : ℕ
  pub left : Memory
  pub replies : List ℕ
  pub consumed : ℕ
  pub replied : ℕ

abbrev pub called : ℕ → Memory → List ℕ → ℕ → ℕ → Called
called a m r c n = record { answer = a; left = m; replies = r; consumed = c; replied = n }

-- replies are written from the start; the bytes behind them stay
abbrev pub called_by : Fed → List ℕ → Called
called_by f r = called f.answer f.left (f.sent ++ drop (length f.sent) r) f.consumed (length f.sent)

unfoldable pub inputs_call : Memory → List Input → List ℕ → Called
inputs_call m l r = called_by (feed_of m l (length r)) r

abbrev pub feed_call : Memory → List ℕ → List ℕ → Called
feed_call m p r = inputs_call m (bytes p) r

-- of time that has passed there is nothing to count
pub record Timed : Type 0 where
  pub answer : ℕ
  pub left : Memory
  pub replies : List ℕ
  pub replied : ℕ

abbrev pub timed : ℕ → Memory → List ℕ → ℕ → Timed
timed a m r n = record { answer = a; left = m; replies = r; replied = n }

abbrev pub timed_by : Called → Timed
timed_by c = timed c.answer c.left c.replies c.replied

abbrev pub time_call : Memory → ℕ → List ℕ → Timed
time_call m ms r = timed_by (inputs_call m (time ms ∷ []) r)
