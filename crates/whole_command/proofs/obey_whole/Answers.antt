use mathlib.Core.Path.{refl}
use Rattle.outcome.proofs.Laws.{obeys_refused}
use Rattle.whole_command.proofs.Whole.{short_unknown, room_there, whole_obeyed}
use borrow.Author.Rules.{rules}
use Rattle.whole_command.proofs.obey_whole.Goals as goal

pub returns-then-bytes-lt-ARGUMENTS_AT : goal.returns-then-bytes-lt-ARGUMENTS_AT
returns-then-bytes-lt-ARGUMENTS_AT c = obeys_refused _ c.refused.ensures (λ h g s p. refl) (λ h g s p. short_unknown c.args.config.edition c.args.bytes.now (search rules) _)

pub fixed_arguments-args-requires : goal.fixed_arguments-args-requires
fixed_arguments-args-requires c = room_there c.args.config.edition c.args.bytes.now _ _ _ c.from-command.ensures c.arguments_of.ensures (search rules) (search rules)

pub returns : goal.returns
returns c = whole_obeyed c.args.config.edition c.args.bytes.now _ _ _ c.from-command.ensures c.arguments_of.ensures (search rules) _ c.fixed_arguments-args.ensures c.obey.ensures
