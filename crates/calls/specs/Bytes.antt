-- What is handed in and lent are bytes.
-- Assumes nothing.
use Rattle.std.specs.Prelude.{List, [], ◌∷◌, ◌<◌}
use Rattle.queue.specs.Record.{Bytes}
use Rattle.rules.specs.Sound.{ComesAll}
use Rattle.calls.specs.Memory.{Memory}
use Rattle.calls.specs.List.{Call, feeds, arrives, takes}

abbrev pub BytesIn : Call → Type 0
BytesIn (feeds l room) = ComesAll l
BytesIn (arrives x) = x < 256
BytesIn takes = Unit {0}

abbrev pub BytesInAll : List Call → Type 0
BytesInAll [] = Unit {0}
BytesInAll (c ∷ cs) = BytesIn c × BytesInAll cs

-- the memory that a call is lent
pub record ByteMemory (m : Memory) : Type 0 where
  pub framebuffer : Bytes m.framebuffer
  pub store : Bytes m.store
  pub state : Bytes m.state
