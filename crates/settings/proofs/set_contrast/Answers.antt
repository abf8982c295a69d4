use Rattle.state.specs.State.{with_contrast}
use Rattle.record.specs.Reading.{panel_of}
use Rattle.settings.proofs.Laws.{contrast_is}
use Rattle.outcome.proofs.Laws.{obeys_set}
use Rattle.settings.proofs.set_contrast.Goals as goal

pub returns : goal.returns
returns c =
    obeys_set c.args.port (with_contrast (panel_of c.args.panel.now) c.args.contrast) c.done.ensures (λ p. c.set_contrast.ensures) (λ h g s p. contrast_is _ _)
