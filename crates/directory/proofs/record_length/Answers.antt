use borrow.Author.Rules.{rules}
use Rattle.directory.proofs.RecordKinds.{length-older, length-newer, length-below, length_above}
use Rattle.directory.proofs.record_length.Goals as goal

pub returns-in-1 : goal.returns-in-1
returns-in-1 c = (length-older _ (search rules) (search rules), search rules)

pub returns-in-3 : goal.returns-in-3
returns-in-3 c = (length-newer _ (search rules) (search rules), search rules)

pub returns-in_default : goal.returns-in_default
returns-in_default c = (length-below _ (search rules), search rules)

pub returns-in_default-2 : goal.returns-in_default-2
returns-in_default-2 c = (length_above _ (search rules), search rules)
