use Rattle.files.proofs.Moves.{closed_is}
use Rattle.files.proofs.close.Goals as goal

pub returns : goal.returns
returns c = closed_is _ _ _ _ _ _ _ _ _ _ c.slide.ensures c.slide-2.ensures c.zero.ensures
