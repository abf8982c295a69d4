use Rattle.directory.proofs.RecordKinds.{newer_long, older_long}
use Rattle.files.proofs.Writes.{all_written, none_written}
use borrow.Author.Rules.{rules}
use Rattle.files.proofs.write_record.Goals as goal

pub write_newer-requires : goal.write_newer-requires
write_newer-requires c = (search rules, newer_long _ _ c.requires.0 c.if-n-eq-NEWER_LENGTH.true)

pub write_older-requires : goal.write_older-requires
write_older-requires c = (search rules, older_long _ _ c.requires.0 c.if-n-eq-NEWER_LENGTH.false)

pub returns-then-n-eq-NEWER_LENGTH : goal.returns-then-n-eq-NEWER_LENGTH
returns-then-n-eq-NEWER_LENGTH c = all_written c.args.store.now c.args.p c.args.n c.args.kind c.args.number c.args.size _ _ c.write_newer.ensures c.if-n-eq-NEWER_LENGTH.true

pub returns-then-n-eq-OLDER_LENGTH : goal.returns-then-n-eq-OLDER_LENGTH
returns-then-n-eq-OLDER_LENGTH c = all_written c.args.store.now c.args.p c.args.n c.args.kind c.args.number c.args.size _ _ c.write_older.ensures c.if-n-eq-OLDER_LENGTH.true

pub returns-else-n-eq-OLDER_LENGTH : goal.returns-else-n-eq-OLDER_LENGTH
returns-else-n-eq-OLDER_LENGTH c = none_written c.args.store.now c.args.p c.args.n c.args.kind c.args.number c.args.size c.requires.0 c.if-n-eq-NEWER_LENGTH.false c.if-n-eq-OLDER_LENGTH.false
