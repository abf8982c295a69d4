-- The state that a record says. Each part is read from the front of a list; behind the end of a list there are only zeros.
-- Assumes nothing.
use Rattle.std.specs.Prelude.{Bool, cond, List, [], ◌∷◌, ℕ, zero, suc, ◌+◌, ◌*◌, eqb, drop}
use Rattle.canvas.specs.Colour.{colour_of}
use Rattle.queue.specs.declared.Flow.{Flow}
use Rattle.queue.specs.Record.{at}
use Rattle.state.specs.declared.Phase.{Phase}
use Rattle.state.specs.declared.Phase.TheVariants.{Idle, Prefix, Gathering, Inline, Upload}
use Rattle.state.specs.declared.Text.{Text}
use Rattle.state.specs.declared.Drawing.{Drawing}
use Rattle.state.specs.declared.Refusals.{Refusals}
use Rattle.state.specs.declared.Port.{Port}
use Rattle.state.specs.declared.BarSlot.{BarSlot}
use Rattle.state.specs.declared.Strip.{Strip}
use Rattle.state.specs.declared.Serial.{Serial}
use Rattle.state.specs.declared.Backlight.{Backlight}
use Rattle.state.specs.declared.Panel.{Panel}
use Rattle.state.specs.declared.Config.{Config}
use Rattle.state.specs.declared.State.{State}
use Rattle.state.specs.State.{line_of, bar_of, bar_slot, strip, config, state}
use Rattle.record.specs.Layout.{phase_at, code_at, got_at, arguments_at, inline_at, upload_at, text_at, drawing_at, flow_at, refusals_at, height_at, edition_at, panel_at, panel_bars, bar_size, panel_strips, strip_size, panel_serial, panel_contrast, panel_backlight, panel_used, used_at}

-- a number of two bytes, low byte first
abbrev pub pair_at : List ℕ → ℕ → ℕ
pair_at l k = at l k + 256 * at l (k + 1)

-- a flag is true exactly where its byte is 1
abbrev pub flag_at : List ℕ → ℕ → Bool
flag_at l k = eqb (at l k) 1

-- n things, each `size` bytes behind the one before
unfoldable pub many_of : {A : Type 0} → (List ℕ → A) → ℕ → List ℕ → ℕ → List A
many_of one size l zero = []
many_of one size l (suc n) = one l ∷ many_of one size (drop size l) n

-- ---- one line

abbrev pub inline_of : List ℕ → Phase
inline_of l = Inline (at l 0) (at l 1) (at l 2) (at l 3) (pair_at l 4)

abbrev pub upload_of : List ℕ → Phase
upload_of l = Upload (at l 0) (pair_at l 1) (pair_at l 3) (pair_at l 5) (flag_at l 7) (at l 8) (pair_at l 9)

-- a tag above 4 is read as idle
unfoldable pub phase_of : List ℕ → Phase
phase_of r =
    cond (eqb (at r phase_at) 1) Prefix
    (cond (eqb (at r phase_at) 2) (Gathering (at r code_at) (at r got_at))
    (cond (eqb (at r phase_at) 3) (inline_of (drop inline_at r))
    (cond (eqb (at r phase_at) 4) (upload_of (drop upload_at r))
    Idle)))

abbrev pub arguments_in : List ℕ → List ℕ
arguments_in l = at l 0 ∷ at l 1 ∷ at l 2 ∷ at l 3 ∷ at l 4 ∷ at l 5 ∷ []

abbrev pub text_of : List ℕ → Text
text_of l =
    record {
      font = pair_at l 0;
      x = pair_at l 2;
      y = at l 4;
      left = at l 5;
      top = at l 6;
      char_space = at l 7;
      line_space = at l 8;
      scroll_row = at l 9;
      wrap = flag_at l 10;
      scroll = flag_at l 11;
    }

abbrev pub drawing_of : List ℕ → Drawing
drawing_of l = record { colour = colour_of (at l 0); x = at l 1; y = at l 2 }

abbrev pub flow_of : List ℕ → Flow
flow_of l = record { on = flag_at l 0; full = at l 1; empty = at l 2 }

abbrev pub refusals_of : List ℕ → Refusals
refusals_of l = record { count = pair_at l 0; last = at l 2 }

unfoldable pub port_of : List ℕ → Port
port_of r =
    record {
      line = line_of (phase_of r) (arguments_in (drop arguments_at r));
      text = text_of (drop text_at r);
      drawing = drawing_of (drop drawing_at r);
      flow = flow_of (drop flow_at r);
      refusals = refusals_of (drop refusals_at r);
    }

-- ---- the display

abbrev pub slot_of : List ℕ → BarSlot
slot_of l = bar_slot (flag_at l 0) (bar_of (at l 1) (at l 2) (at l 3) (at l 4) (at l 5) (at l 6))

abbrev pub strip_of : List ℕ → Strip
strip_of l = strip (flag_at l 0) (at l 1) (at l 2) (at l 3) (at l 4)

abbrev pub serial_of : List ℕ → Serial
serial_of l = record { on = flag_at l 0; a = at l 1; b = at l 2 }

abbrev pub backlight_of : List ℕ → Backlight
backlight_of l = record { on = flag_at l 0; minutes = at l 1 }

-- from the panel's own front
unfoldable pub panel_of : List ℕ → Panel
panel_of l =
    record {
      bars = many_of slot_of bar_size (drop panel_bars l) 16;
      strips = many_of strip_of strip_size (drop panel_strips l) 8;
      serial = serial_of (drop panel_serial l);
      contrast = at l panel_contrast;
      backlight = backlight_of (drop panel_backlight l);
      used = pair_at l panel_used;
    }

-- ---- the whole

abbrev pub height_in : List ℕ → ℕ
height_in r = at r height_at

abbrev pub edition_in : List ℕ → ℕ
edition_in r = at r edition_at

-- what the board chose at start
abbrev pub config_in : List ℕ → Config
config_in r = config (height_in r) (edition_in r)

-- the used room that it keeps
abbrev pub used_in : List ℕ → ℕ
used_in r = pair_at r used_at

unfoldable pub decode_of : List ℕ → State
decode_of r = state (config_in r) (port_of r) (panel_of (drop panel_at r))
