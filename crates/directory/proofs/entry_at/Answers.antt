use lib.ListN.{get_or}
use mathlib.Core.Path.{ap, sym, ◌∙◌}
use native.Mathlib.Omega.{arith}
use Rattle.directory.specs.Directory.{length_of}
use Rattle.directory.proofs.RecordKinds.{length_most}
use Rattle.directory.proofs.Laws.{copied}
use borrow.Author.Rules.{rules}
use Rattle.directory.proofs.entry_at.Goals as goal

pub whole_entry-requires-2 : goal.whole_entry-requires-2
whole_entry-requires-2 c = (c.requires.0 ∙ ap length_of (sym c.byte_at.ensures), search rules, omega (arith, c.requires.0, length_most (get_or c.args.store.now c.args.p 0)))

pub returns : goal.returns
returns c = (c.whole_entry-2.ensures.0 ∙ copied _ _ _ _ _ _ _ _ _ c.byte_at.ensures c.byte_at-2.ensures c.byte_at-3.ensures c.byte_at-4.ensures c.byte_at-5.ensures c.byte_at-6.ensures c.byte_at-7.ensures, c.whole_entry-2.ensures.1)
