use native.Mathlib.Omega.{arith}
use borrow.Author.Rules.{rules}
use Rattle.directory.proofs.Laws.{newer_read}
use Rattle.directory.proofs.newer_entry.Goals as goal

pub returns : goal.returns
returns c = (newer_read _ _ _ _ c.requires.1 (omega arith) (omega arith), search rules)
