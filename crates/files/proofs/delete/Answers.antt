use mathlib.Core.Path.{ap, ◌∙◌}
use native.Mathlib.Omega.{arith}
use Rattle.directory.specs.Directory.{length_of}
use Rattle.files.proofs.Writes.{delete_short, delete_none, delete_asks, delete_found, placed, used_is}
use borrow.Author.Rules.{rules}
use Rattle.files.proofs.delete.Goals as goal

pub returns-then-store-top : goal.returns-then-store-top
returns-then-store-top c = delete_short c.args.store.now c.args.sort c.args.number c.tally-t.result c.tally-t.ensures.0 (search rules)

pub returns-in_default : goal.returns-in_default
returns-in_default c = delete_none c.args.store.now c.args.sort c.args.number c.tally-t.result c.tally-t.ensures.0 c.find-found.result (search rules) c.find-found.ensures (search rules)

pub overflow_add-start : goal.overflow_add-start
overflow_add-start c = omega (arith, placed _ _ _ _ _ _ _ c.find-found.ensures c.in-Some.is, used_is _ _ c.tally-t.ensures.0)

pub close-requires : goal.close-requires
close-requires c = delete_asks c.args.store.now c.args.sort c.args.number c.tally-t.result c.tally-t.ensures.0 c.find-found.result _ _ _ _ (search rules) c.tally-t.ensures.1 c.find-found.ensures c.in-Some.is (c.record_length-n.ensures.0 ∙ ap length_of c.byte_at.ensures)

pub returns : goal.returns
returns c = delete_found c.args.store.now c.args.sort c.args.number c.tally-t.result c.tally-t.ensures.0 c.find-found.result _ _ _ _ _ (search rules) c.find-found.ensures c.in-Some.is (c.record_length-n.ensures.0 ∙ ap length_of c.byte_at.ensures) c.close.ensures
