use mathlib.Core.Path.{refl}
use Rattle.outcome.proofs.Laws.{refuse_is}
use Rattle.outcome.proofs.refuse.Goals as goal

pub returns : goal.returns
returns g c = (c.into.result, c.into.ensures, refuse_is _ _ _ _ c.in_phase-ended.ensures refl)
