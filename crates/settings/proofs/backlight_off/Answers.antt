use Rattle.state.specs.State.{with_backlight}
use Rattle.record.specs.Reading.{panel_of}
use mathlib.Core.Bool.{false}
use Rattle.rules.specs.Settings.{backlight}
use Rattle.settings.proofs.Laws.{off_is}
use Rattle.outcome.proofs.Laws.{obeys_set}
use Rattle.settings.proofs.backlight_off.Goals as goal

pub returns : goal.returns
returns c =
    let p = panel_of c.args.panel.now in
    obeys_set c.args.port (with_backlight p (backlight false p.backlight.minutes)) c.done.ensures (λ p. c.clear_backlight.ensures) (λ h g s p. off_is _)
