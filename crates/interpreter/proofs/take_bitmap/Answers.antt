use mathlib.Core.Path.{refl}
use native.Mathlib.Omega.{arith}
use Rattle.interpreter.proofs.Phases.{due_small, bitmap_19, bitmap_22, bitmap_found}
use Rattle.outcome.proofs.Laws.{obeys_refused, obeys_done, done_with}
use borrow.Author.Rules.{rules}
use Rattle.interpreter.proofs.take_bitmap.Goals as goal

pub returns-then-number-gt-MAX_NUMBER : goal.returns-then-number-gt-MAX_NUMBER
returns-then-number-gt-MAX_NUMBER c = obeys_refused 19 c.refused_in_line.ensures (λ h g s p. refl) (λ h g s p. bitmap_19 _ _ _ _ _ _ _ c.requires c.gathered-args.ensures c.first_number-number.ensures (search rules))

pub returns-in_default : goal.returns-in_default
returns-in_default c = obeys_refused 22 c.refused_in_line-in_default.ensures (λ h g s p. refl) (λ h g s p. bitmap_22 _ _ _ _ _ _ _ c.requires c.gathered-args.ensures c.first_number-number.ensures _ (search rules) c.find.ensures (search rules))

pub overflow_add-got : goal.overflow_add-got
overflow_add-got c = omega (arith, due_small c.args.edition c.args.got c.requires)

pub returns : goal.returns
returns c = obeys_done _ (done_with c.gathering.ensures c.done.ensures) (λ p. refl) (λ h g s p. bitmap_found _ _ _ _ _ _ _ c.requires c.gathered-args.ensures c.first_number-number.ensures _ (search rules) c.find.ensures _ c.in-Some.is)
