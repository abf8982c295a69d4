-- What the layout of the record adds, so that one state has one record; none of it stands in the rules' list of what is sound. A place that no field uses just
-- now is 0, and an upload is that of a font or of a bitmap.
-- Assumes nothing.
use Rattle.std.specs.Prelude.{List, [], ◌∷◌, Bool, true, ◌&&◌, ◌||◌, ℕ, eqb, drop}
use Rattle.bar_graph.specs.declared.Bar.{Bar}
use Rattle.state.specs.declared.Phase.{Phase}
use Rattle.state.specs.declared.Phase.TheVariants.{Idle, Prefix, Gathering, Inline, Upload}
use Rattle.state.specs.declared.Port.{Port}
use Rattle.state.specs.declared.BarSlot.{BarSlot}
use Rattle.state.specs.declared.Strip.{Strip}
use Rattle.state.specs.declared.Serial.{Serial}
use Rattle.state.specs.declared.Panel.{Panel}
use Rattle.state.specs.declared.State.{State}
use Rattle.state.specs.Soundness.{every}

abbrev pub is_zero : ℕ → Bool
is_zero n = eqb n 0

abbrev pub all_zero : List ℕ → Bool
all_zero l = every is_zero l

-- the sort is 1 or 2, and a byte that does not wait is 0
unfoldable pub canonical_upload : ℕ → Bool → ℕ → Bool
canonical_upload sort waiting byte = (eqb sort 1 || eqb sort 2) && (waiting || eqb byte 0)

unfoldable pub canonical_phase : Phase → Bool
canonical_phase Idle = true
canonical_phase Prefix = true
canonical_phase (Gathering code got) = true
canonical_phase (Inline x1 y1 x2 y2 came) = true
canonical_phase (Upload sort number size stored waiting byte waited) = canonical_upload sort waiting byte

-- how many arguments stand gathered
abbrev pub gathered : Phase → ℕ
gathered Idle = 0
gathered Prefix = 0
gathered (Gathering code got) = got
gathered (Inline x1 y1 x2 y2 came) = 0
gathered (Upload sort number size stored waiting byte waited) = 0

-- arguments not gathered
abbrev pub canonical_arguments : Phase → List ℕ → Bool
canonical_arguments p args = all_zero (drop (gathered p) args)

unfoldable pub canonical_port : Port → Bool
canonical_port p = canonical_phase p.line.phase && canonical_arguments p.line.phase p.line.args

abbrev pub blank : Bar → Bool
blank b = all_zero (b.kind ∷ b.x1 ∷ b.y1 ∷ b.x2 ∷ b.y2 ∷ b.value ∷ [])

-- bars and strips that are not set up, a serial number that is not stored
unfoldable pub canonical_bar : BarSlot → Bool
canonical_bar s = s.on || blank s.bar

unfoldable pub canonical_strip : Strip → Bool
canonical_strip s = s.on || all_zero (s.x1 ∷ s.y1 ∷ s.x2 ∷ s.y2 ∷ [])

unfoldable pub canonical_serial : Serial → Bool
canonical_serial s = s.on || all_zero (s.a ∷ s.b ∷ [])

unfoldable pub canonical_panel : Panel → Bool
canonical_panel q = every canonical_bar q.bars && every canonical_strip q.strips && canonical_serial q.serial

unfoldable pub canonical_state : State → Bool
canonical_state s = canonical_port s.port && canonical_panel s.panel
