use mathlib.Core.Path.{refl}
use Rattle.interpreter.proofs.Phases.{due_is, bitmap_is, argument_kept, argument_obeyed}
use Rattle.outcome.proofs.Laws.{obeys_done, obeys_as, done_with}
use native.Mathlib.Omega.{arith}
use borrow.Author.Rules.{rules}
use Rattle.interpreter.proofs.take_argument.Goals as goal

pub take_bitmap-requires : goal.take_bitmap-requires
take_bitmap-requires c = due_is c.args.config.edition c.args.code c.args.got _ c.is_bitmap_due.ensures (search rules)

pub returns-then-is_bitmap_due : goal.returns-then-is_bitmap_due
returns-then-is_bitmap_due c = obeys_as c.take_bitmap.ensures (λ h g s p. refl) (λ h g s p. bitmap_is c.args.config.edition c.args.code c.args.got _ c.is_bitmap_due.ensures (search rules) _ _)

pub returns-then-from : goal.returns-then-from
returns-then-from c = obeys_done _ (done_with c.gathering.ensures c.done.ensures) (λ p. refl) (λ h g s p. argument_kept _ _ _ _ _ _ _ _ _ c.is_bitmap_due.ensures (search rules) c.from-command.ensures c.arguments_of.ensures c.gathered-args.ensures _ _ _ (omega arith))

pub returns : goal.returns
returns c = argument_obeyed _ _ _ _ _ _ _ _ _ c.is_bitmap_due.ensures (search rules) c.from-command.ensures c.arguments_of.ensures c.gathered-args.ensures _ (omega arith) c.in_phase-outside.ensures c.obey.ensures
