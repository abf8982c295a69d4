-- What the types of the program say of a state: every field fits its type.
-- Assumes nothing.
use Rattle.std.specs.Prelude.{◌≡◌, List, ℕ, ◌<◌, length}
use Rattle.queue.specs.declared.Flow.{Flow}
use Rattle.queue.specs.Record.{Bytes}
use Rattle.state.specs.declared.Phase.{Phase}
use Rattle.state.specs.declared.Phase.TheVariants.{Idle, Prefix, Gathering, Inline, Upload}
use Rattle.state.specs.declared.Text.{Text}
use Rattle.state.specs.declared.Drawing.{Drawing}
use Rattle.state.specs.declared.Refusals.{Refusals}
use Rattle.state.specs.declared.Port.{Port}
use Rattle.state.specs.declared.BarSlot.{BarSlot}
use Rattle.state.specs.declared.Strip.{Strip}
use Rattle.state.specs.declared.Serial.{Serial}
use Rattle.state.specs.declared.Panel.{Panel}
use Rattle.state.specs.declared.Config.{Config}
use Rattle.state.specs.declared.State.{State}
use Rattle.state.specs.State.{bar_at, strip_at}

-- ---- the port

abbrev pub PhaseFits : Phase → Type 0
PhaseFits Idle = Unit {0}
PhaseFits Prefix = Unit {0}
PhaseFits (Gathering code got) = (code < 256) × (got < 256)
PhaseFits (Inline x1 y1 x2 y2 came) = (x1 < 256) × (y1 < 256) × (x2 < 256) × (y2 < 256) × (came < 65536)
PhaseFits (Upload sort number size stored waiting byte waited) = (sort < 256) × (number < 65536) × (size < 65536) × (stored < 65536) × (byte < 256) × (waited < 65536)

pub record ArgsFit (a : List ℕ) : Type 0 where
  pub six : length a ≡ 6
  pub bytes : Bytes a

pub record TextFits (t : Text) : Type 0 where
  pub font : t.font < 65536
  pub x : t.x < 65536
  pub y : t.y < 256
  pub left : t.left < 256
  pub top : t.top < 256
  pub char_space : t.char_space < 256
  pub line_space : t.line_space < 256
  pub scroll_row : t.scroll_row < 256

pub record DrawingFits (d : Drawing) : Type 0 where
  pub x : d.x < 256
  pub y : d.y < 256

pub record FlowFits (f : Flow) : Type 0 where
  pub full : f.full < 256
  pub empty : f.empty < 256

pub record RefusalsFit (r : Refusals) : Type 0 where
  pub count : r.count < 65536
  pub last : r.last < 256

pub record PortFits (p : Port) : Type 0 where
  pub phase : PhaseFits p.line.phase
  pub args : ArgsFit p.line.args
  pub text : TextFits p.text
  pub drawing : DrawingFits p.drawing
  pub flow : FlowFits p.flow
  pub refusals : RefusalsFit p.refusals

-- ---- the panel

pub record BarFits (s : BarSlot) : Type 0 where
  pub kind : s.bar.kind < 256
  pub x1 : s.bar.x1 < 256
  pub y1 : s.bar.y1 < 256
  pub x2 : s.bar.x2 < 256
  pub y2 : s.bar.y2 < 256
  pub value : s.bar.value < 256

pub record StripFits (s : Strip) : Type 0 where
  pub x1 : s.x1 < 256
  pub y1 : s.y1 < 256
  pub x2 : s.x2 < 256
  pub y2 : s.y2 < 256

pub record SerialFits (s : Serial) : Type 0 where
  pub a : s.a < 256
  pub b : s.b < 256

pub record PanelFits (q : Panel) : Type 0 where
  pub sixteen : length q.bars ≡ 16
  pub bars : (i : ℕ) → BarFits (bar_at q i)
  pub eight : length q.strips ≡ 8
  pub strips : (i : ℕ) → StripFits (strip_at q i)
  pub serial : SerialFits q.serial
  pub contrast : q.contrast < 256
  pub minutes : q.backlight.minutes < 256
  pub used : q.used < 65536

-- ---- the whole

pub record ConfigFits (c : Config) : Type 0 where
  pub height : c.height < 256
  pub edition : c.edition < 256

pub record Fits (s : State) : Type 0 where
  pub config : ConfigFits s.config
  pub port : PortFits s.port
  pub panel : PanelFits s.panel
