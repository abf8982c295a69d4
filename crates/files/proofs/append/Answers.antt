use Rattle.files.proofs.Writes.{append_in, append_none}
use Rattle.files.proofs.append.Goals.{else-store-ge-DIRECTORY-via-then-store-ge-DIRECTORY+else-p-n-le-DIRECTORY, else-store-ge-DIRECTORY-via-else-store-ge-DIRECTORY}
use borrow.Author.Rules.{rules}
use Rattle.files.proofs.append.Goals as goal

pub returns-then-p-n-le-DIRECTORY : goal.returns-then-p-n-le-DIRECTORY
returns-then-p-n-le-DIRECTORY c = append_in c.args.store.now c.args.kind c.args.number c.args.size c.record_length-n.result c.tally-t.result c.tally-t.ensures.0 c.record_length-n.ensures.0 _ (search rules) (search rules) c.write_record.ensures

pub returns-else-store-ge-DIRECTORY : goal.returns-else-store-ge-DIRECTORY
returns-else-store-ge-DIRECTORY c =
    let t = append_none c.args.store.now c.args.kind c.args.number c.args.size c.record_length-n.result c.tally-t.result c.tally-t.ensures.0 c.record_length-n.ensures.0 in
    elim c.else-store-ge-DIRECTORY.branch [
      | else-store-ge-DIRECTORY-via-then-store-ge-DIRECTORY+else-p-n-le-DIRECTORY w ↦ t.0 w.if-p-n-le-DIRECTORY.false
      | else-store-ge-DIRECTORY-via-else-store-ge-DIRECTORY w ↦ t.1 w.if-store-ge-DIRECTORY.false
    ]
