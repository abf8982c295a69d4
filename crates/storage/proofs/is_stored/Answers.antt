use Rattle.storage.proofs.Laws.{stored_is}
use Rattle.storage.proofs.is_stored.Goals as goal

pub returns : goal.returns
returns c = stored_is _ _ _ _ _ c.find.ensures c.is_some.ensures
