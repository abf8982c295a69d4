-- Flow control, contrast, backlight, serial number.
-- Assumes nothing.
use Rattle.std.specs.Prelude.{[], ◌∷◌, Bool, true, false, cond, ℕ, ◌+◌, leb}
use Rattle.refusals.specs.Refusals.{bad_watermarks}
use Rattle.queue.specs.declared.Flow.{Flow}
use Rattle.state.specs.declared.Serial.{Serial}
use Rattle.state.specs.declared.Backlight.{Backlight}
use Rattle.state.specs.State.{with_flow, with_contrast, with_backlight, with_serial}
use Rattle.rules.specs.World.{World, port, panel, with_port, with_panel, Outcome, done, quietly, refuse_if}

abbrev pub flow : Bool → ℕ → ℕ → Flow
flow on full empty = record { on = on; full = full; empty = empty }

-- 27: thresholds that sum to 80 or more
unfoldable pub flow_on : World → ℕ → ℕ → Outcome
flow_on w full empty = refuse_if (leb 80 (full + empty)) bad_watermarks (quietly (with_port w (with_flow (port w) (flow true full empty))))

-- the thresholds stay
unfoldable pub flow_off : World → Outcome
flow_off w = quietly (with_port w (with_flow (port w) (flow false (port w).flow.full (port w).flow.empty)))

unfoldable pub set_contrast : World → ℕ → Outcome
set_contrast w c = quietly (with_panel w (with_contrast (panel w) c))

abbrev pub backlight : Bool → ℕ → Backlight
backlight on m = record { on = on; minutes = m }

unfoldable pub backlight_on : World → ℕ → Outcome
backlight_on w m = quietly (with_panel w (with_backlight (panel w) (backlight true m)))

-- the minutes stay
unfoldable pub backlight_off : World → Outcome
backlight_off w = quietly (with_panel w (with_backlight (panel w) (backlight false (panel w).backlight.minutes)))

abbrev pub serial : ℕ → ℕ → Serial
serial a b = record { on = true; a = a; b = b }

-- stored the first time, and always answered by what is stored
unfoldable pub set_serial : World → ℕ → ℕ → Outcome
set_serial w a b =
    cond (panel w).serial.on (done w ((panel w).serial.a ∷ (panel w).serial.b ∷ []))
    (done (with_panel w (with_serial (panel w) (serial a b))) (a ∷ b ∷ []))
