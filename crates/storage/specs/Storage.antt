-- A refusal answered by 8.
-- What contracts of private functions cite, and no rule.
-- Assumes nothing.
use Rattle.std.specs.Prelude.{ℕ}
use Rattle.state.specs.declared.Port.{Port}
use Rattle.outcome.specs.declared.Outcome.{Outcome}
use Rattle.outcome.specs.Outcome.{one_byte, refused_port, sending_of}

abbrev pub telling_of : Port → ℕ → Outcome
telling_of p n = sending_of (refused_port p n) (one_byte 8)
