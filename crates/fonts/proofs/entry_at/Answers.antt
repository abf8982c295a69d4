use Rattle.fonts.proofs.Ways.{entry_is}
use Rattle.fonts.proofs.entry_at.Goals as goal

pub returns : goal.returns
returns c = entry_is _ _ _ _ _ c.from-n.ensures c.offset_at.ensures.0 c.width_at.ensures
