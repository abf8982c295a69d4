use mathlib.Core.Bool.{true}
use Rattle.state.specs.State.{with_backlight}
use Rattle.record.specs.Reading.{panel_of}
use Rattle.rules.specs.Settings.{backlight}
use Rattle.settings.proofs.Laws.{on_is}
use Rattle.outcome.proofs.Laws.{obeys_set}
use Rattle.settings.proofs.backlight_on.Goals as goal

pub returns : goal.returns
returns c =
    obeys_set c.args.port (with_backlight (panel_of c.args.panel.now) (backlight true c.args.minutes)) c.done.ensures (λ p. c.set_backlight.ensures) (λ h g s p. on_is _ _)
