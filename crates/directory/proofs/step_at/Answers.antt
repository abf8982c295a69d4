use mathlib.Core.Path.{ap, ◌∙◌}
use Rattle.directory.specs.Directory.{length_of}
use Rattle.directory.proofs.Laws.{step_past, step_in, step_over}
use borrow.Author.Rules.{rules}
use Rattle.directory.proofs.step_at.Goals as goal

pub returns-then-p-ge-DIRECTORY : goal.returns-then-p-ge-DIRECTORY
returns-then-p-ge-DIRECTORY c = step_past _ _ (search rules)

pub returns-then-p-n-le-DIRECTORY : goal.returns-then-p-n-le-DIRECTORY
returns-then-p-n-le-DIRECTORY c = step_in _ _ _ (c.record_length-n.ensures.0 ∙ ap length_of c.byte_at.ensures) (search rules)

pub returns-else-p-n-le-DIRECTORY : goal.returns-else-p-n-le-DIRECTORY
returns-else-p-n-le-DIRECTORY c = step_over _ _ _ (c.record_length-n.ensures.0 ∙ ap length_of c.byte_at.ensures) (search rules)
