use Rattle.files.proofs.Writes.{purge_is}
use Rattle.files.proofs.purge.Goals as goal

pub returns : goal.returns
returns c = purge_is _ _ _ c.min-n.ensures c.zero.ensures
