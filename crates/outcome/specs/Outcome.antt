-- The code's outcome: a port and a reply. `sent_by` has the reply as a list of bytes, as the rules say it.
-- Assumes nothing.
use Rattle.std.specs.Prelude.{ℕ, ◌+◌, ◌%◌, List, [], ◌∷◌}
use Rattle.state.specs.declared.Phase.{Phase}
use Rattle.state.specs.declared.Port.{Port}
use Rattle.state.specs.State.{with_phase, with_refusals, idle, no_args}
use Rattle.rules.specs.Step.{refusals}
use Rattle.outcome.specs.declared.Reply.{Reply}
use Rattle.outcome.specs.declared.Reply.TheVariants.{Silence, One, Two}
use Rattle.outcome.specs.declared.Outcome.{Outcome}

abbrev pub no_reply : Reply
no_reply = Silence

abbrev pub one_byte : ℕ → Reply
one_byte a = One a

abbrev pub two_bytes : ℕ → ℕ → Reply
two_bytes a b = Two a b

unfoldable pub sent_by : Reply → List ℕ
sent_by Silence = []
sent_by (One a) = a ∷ []
sent_by (Two a b) = a ∷ b ∷ []

abbrev pub in_phase_of : Port → Phase → Port
in_phase_of p f = with_phase p f no_args

unfoldable pub refused_port : Port → ℕ → Port
refused_port p n = with_refusals (idle p) (refusals ((p.refusals.count + 1) % 65536) n)

abbrev pub sending_of : Port → Reply → Outcome
sending_of p r = record { port = p; reply = r }

abbrev pub done_of : Port → Outcome
done_of p = sending_of p no_reply

abbrev pub refused_of : Port → ℕ → Outcome
refused_of p n = sending_of (refused_port p n) no_reply
