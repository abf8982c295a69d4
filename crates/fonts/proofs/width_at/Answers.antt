use Rattle.fonts.proofs.Ways.{width_is}
use Rattle.fonts.proofs.width_at.Goals as goal

pub returns : goal.returns
returns c = width_is _ _ _ c.byte_at.ensures
