use native.Mathlib.Omega.{arith}
use borrow.Author.Rules.{rules}
use Rattle.directory.proofs.Laws.{older_read}
use Rattle.directory.proofs.older_entry.Goals as goal

pub returns : goal.returns
returns c = (older_read _ _ _ _ c.requires.1 (omega arith) (omega arith), search rules)
