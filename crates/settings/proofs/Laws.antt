-- The rules of these commands, each way by itself.
-- Assumes nothing.
use mathlib.Core.Path.{◌≡◌, refl}
use mathlib.Core.Bool.{true, false}
use mathlib.Core.List.{[], ◌∷◌}
use native.Mathlib.Omega.{arith}
use Prim.Native.Nat.{ℕ, ◌+◌, ◌<◌, ◌≤◌}
use borrow.Author.Tests.{le-leb, lt-leb}
use Rattle.state.specs.declared.Serial.{Serial}
use Rattle.state.specs.State.{with_flow, with_contrast, with_backlight, with_serial}
use Rattle.rules.specs.World.{World, port, panel, with_port, with_panel, done, quietly, refused}
use Rattle.rules.specs.Settings.{flow, flow_on, flow_off, set_contrast, backlight, backlight_on, backlight_off, serial, set_serial}

pub flow_refused_lem : (w : World) (full empty a b : ℕ) → a ≡ full → b ≡ empty → 80 ≤ a + b → flow_on w full empty ≡ refused 27 []
unfolding flow_on
flow_refused_lem w full empty a b e f l = rw (le-leb 80 (full + empty) (omega arith))

pub flow_on_is : (w : World) (full empty a b : ℕ) → a ≡ full → b ≡ empty → a + b < 80 → flow_on w full empty ≡ quietly (with_port w (with_flow (port w) (flow true full empty)))
unfolding flow_on
flow_on_is w full empty a b e f l = rw (lt-leb 80 (full + empty) (omega arith))

pub flow_off_is : (w : World) → flow_off w ≡ quietly (with_port w (with_flow (port w) (flow false (port w).flow.full (port w).flow.empty)))
unfolding flow_off
flow_off_is w = refl

pub contrast_is : (w : World) (c : ℕ) → set_contrast w c ≡ quietly (with_panel w (with_contrast (panel w) c))
unfolding set_contrast
contrast_is w c = refl

pub on_is : (w : World) (m : ℕ) → backlight_on w m ≡ quietly (with_panel w (with_backlight (panel w) (backlight true m)))
unfolding backlight_on
on_is w m = refl

pub off_is : (w : World) → backlight_off w ≡ quietly (with_panel w (with_backlight (panel w) (backlight false (panel w).backlight.minutes)))
unfolding backlight_off
off_is w = refl

pub serial_kept : (w : World) (a b : ℕ) (n : Serial) → n ≡ (panel w).serial → n.on ≡ true → set_serial w a b ≡ done w (n.a ∷ n.b ∷ [])
unfolding set_serial
serial_kept w a b n d e = rw (← d, e)

pub serial_stored : (w : World) (a b : ℕ) (n : Serial) → n ≡ (panel w).serial → n.on ≡ false → set_serial w a b ≡ done (with_panel w (with_serial (panel w) (serial a b))) (a ∷ b ∷ [])
unfolding set_serial
serial_stored w a b n d e = rw (← d, e)
