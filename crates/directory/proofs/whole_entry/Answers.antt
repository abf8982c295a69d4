use Rattle.directory.proofs.RecordKinds.{newer_long, older_long}
use borrow.Author.Rules.{rules}
use Rattle.directory.proofs.whole_entry.Goals as goal

pub newer_entry-requires : goal.newer_entry-requires
newer_entry-requires c = (search rules, newer_long _ _ c.requires.0 (search rules))

pub older_entry-requires : goal.older_entry-requires
older_entry-requires c = (search rules, older_long _ _ c.requires.0 (search rules))
