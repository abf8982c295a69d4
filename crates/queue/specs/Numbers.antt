-- The numbers of the signals and of the answers.
-- Assumes nothing.
use Rattle.std.specs.Prelude.{ℕ, Option, None, Some}
use Rattle.queue.specs.declared.Signal.{Signal}
use Rattle.queue.specs.declared.Signal.TheVariants.{NearlyFull, NearlyEmpty}
use Rattle.queue.specs.declared.QueueError.{QueueError}
use Rattle.queue.specs.declared.QueueError.TheVariants.{Unsound, Empty, Full}

-- 0 where nothing is sent
abbrev pub signal_number : Option Signal → ℕ
signal_number None = 0
signal_number (Some NearlyFull) = 254
signal_number (Some NearlyEmpty) = 255

-- what is done is answered with 0
abbrev pub error_number : QueueError → ℕ
error_number Unsound = 3
error_number Empty = 6
error_number Full = 7
