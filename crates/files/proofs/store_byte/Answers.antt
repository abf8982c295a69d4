use Rattle.files.proofs.Writes.{stored_out}
use borrow.Author.Rules.{rules}
use Rattle.files.proofs.store_byte.Goals as goal

pub returns-else-at-store : goal.returns-else-at-store
returns-else-at-store c = stored_out c.args.store.now c.args.used c.args.k c.args.byte (search rules)
