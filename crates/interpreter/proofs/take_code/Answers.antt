use mathlib.Core.Path.{refl}
use Rattle.interpreter.proofs.Phases.{code_gathers, code_obeyed}
use Rattle.outcome.proofs.Laws.{obeys_done, done_with}
use borrow.Author.Rules.{rules}
use Rattle.interpreter.proofs.take_code.Goals as goal

pub returns-then-arguments_of-eq0 : goal.returns-then-arguments_of-eq0
returns-then-arguments_of-eq0 c = code_obeyed _ _ _ c.from-command.ensures _ c.arguments_of.ensures (search rules) c.in_phase-outside.ensures c.obey.ensures

pub returns : goal.returns
returns c = obeys_done _ (done_with c.in_phase.ensures c.done.ensures) (λ p. refl) (λ h g s p. code_gathers _ _ _ c.from-command.ensures _ c.arguments_of.ensures (search rules))
