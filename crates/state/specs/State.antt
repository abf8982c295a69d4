-- The state: what nothing set up is, what stands at the start, and the parts that change put anew.
-- Assumes nothing.
use Rattle.std.specs.Prelude.{List, [], ◌∷◌, Bool, true, false, ℕ, get_or, replicate}
use Rattle.canvas.specs.Colour.{colour}
use Rattle.bar_graph.specs.declared.Bar.{Bar}
use Rattle.queue.specs.declared.Flow.{Flow}
use Rattle.state.specs.declared.Phase.{Phase}
use Rattle.state.specs.declared.Phase.TheVariants.{Idle}
use Rattle.state.specs.declared.Text.{Text}
use Rattle.state.specs.declared.Drawing.{Drawing}
use Rattle.state.specs.declared.Refusals.{Refusals}
use Rattle.state.specs.declared.Line.{Line}
use Rattle.state.specs.declared.Port.{Port}
use Rattle.state.specs.declared.BarSlot.{BarSlot}
use Rattle.state.specs.declared.Strip.{Strip}
use Rattle.state.specs.declared.Serial.{Serial}
use Rattle.state.specs.declared.Backlight.{Backlight}
use Rattle.state.specs.declared.Panel.{Panel}
use Rattle.state.specs.declared.Config.{Config}
use Rattle.state.specs.declared.State.{State}

-- ---- nothing set up

abbrev pub no_args : List ℕ
no_args = 0 ∷ 0 ∷ 0 ∷ 0 ∷ 0 ∷ 0 ∷ []

abbrev pub bar_of : ℕ → ℕ → ℕ → ℕ → ℕ → ℕ → Bar
bar_of k x1 y1 x2 y2 v = record { kind = k; x1 = x1; y1 = y1; x2 = x2; y2 = y2; value = v }

abbrev pub bar_slot : Bool → Bar → BarSlot
bar_slot on b = record { on = on; bar = b }

abbrev pub no_bar : BarSlot
no_bar = bar_slot false (bar_of 0 0 0 0 0 0)

abbrev pub strip : Bool → ℕ → ℕ → ℕ → ℕ → Strip
strip on x1 y1 x2 y2 = record { on = on; x1 = x1; y1 = y1; x2 = x2; y2 = y2 }

abbrev pub no_strip : Strip
no_strip = strip false 0 0 0 0

-- bar n and strip n; a number that there is not is not set up
abbrev pub bar_at : Panel → ℕ → BarSlot
bar_at p n = get_or p.bars n no_bar

abbrev pub strip_at : Panel → ℕ → Strip
strip_at p n = get_or p.strips n no_strip

-- ---- the start, for a framebuffer of h rows

-- font 1, margins 0, character space 0, line space 1, the scroll row at the framebuffer's end, wrap and scroll on, text home
abbrev pub start_text : ℕ → Text
start_text h =
    record { font = 1; x = 0; y = 0; left = 0; top = 0; char_space = 0; line_space = 1; scroll_row = h; wrap = true; scroll = true }

abbrev pub line_of : Phase → List ℕ → Line
line_of f l = record { phase = f; args = l }

abbrev pub start_port : ℕ → Port
start_port h =
    record {
      line = line_of Idle no_args;
      text = start_text h;
      drawing = record { colour = colour true; x = 0; y = 0 };
      flow = record { on = false; full = 0; empty = 0 };
      refusals = record { count = 0; last = 0 };
    }

-- u bytes of the file area are used
abbrev pub start_panel : ℕ → Panel
start_panel u =
    record {
      bars = replicate 16 no_bar;
      strips = replicate 8 no_strip;
      serial = record { on = false; a = 0; b = 0 };
      contrast = 128;
      backlight = record { on = true; minutes = 0 };
      used = u;
    }

abbrev pub config : ℕ → ℕ → Config
config h e = record { height = h; edition = e }

abbrev pub state : Config → Port → Panel → State
state c p q = record { config = c; port = p; panel = q }

abbrev pub start_state : Config → ℕ → State
start_state c u = state c (start_port c.height) (start_panel u)

-- ---- parts put anew

abbrev pub with_phase : Port → Phase → List ℕ → Port
with_phase p ph l = record { line = line_of ph l; text = p.text; drawing = p.drawing; flow = p.flow; refusals = p.refusals }

-- outside any command
abbrev pub idle : Port → Port
idle p = with_phase p Idle no_args

abbrev pub with_text : Port → Text → Port
with_text p t = record { line = p.line; text = t; drawing = p.drawing; flow = p.flow; refusals = p.refusals }

abbrev pub with_drawing : Port → Drawing → Port
with_drawing p d = record { line = p.line; text = p.text; drawing = d; flow = p.flow; refusals = p.refusals }

abbrev pub with_flow : Port → Flow → Port
with_flow p f = record { line = p.line; text = p.text; drawing = p.drawing; flow = f; refusals = p.refusals }

abbrev pub with_refusals : Port → Refusals → Port
with_refusals p r = record { line = p.line; text = p.text; drawing = p.drawing; flow = p.flow; refusals = r }

abbrev pub with_bars : Panel → List BarSlot → Panel
with_bars q l = record { bars = l; strips = q.strips; serial = q.serial; contrast = q.contrast; backlight = q.backlight; used = q.used }

abbrev pub with_strips : Panel → List Strip → Panel
with_strips q l = record { bars = q.bars; strips = l; serial = q.serial; contrast = q.contrast; backlight = q.backlight; used = q.used }

abbrev pub with_serial : Panel → Serial → Panel
with_serial q s = record { bars = q.bars; strips = q.strips; serial = s; contrast = q.contrast; backlight = q.backlight; used = q.used }

abbrev pub with_contrast : Panel → ℕ → Panel
with_contrast q c = record { bars = q.bars; strips = q.strips; serial = q.serial; contrast = c; backlight = q.backlight; used = q.used }

abbrev pub with_backlight : Panel → Backlight → Panel
with_backlight q b = record { bars = q.bars; strips = q.strips; serial = q.serial; contrast = q.contrast; backlight = b; used = q.used }

abbrev pub with_used : Panel → ℕ → Panel
with_used q u = record { bars = q.bars; strips = q.strips; serial = q.serial; contrast = q.contrast; backlight = q.backlight; used = u }
