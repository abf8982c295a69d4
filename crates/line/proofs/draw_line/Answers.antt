use Rattle.line.proofs.Tracing.{line_flat, line_steep}
use borrow.Author.Rules.{rules}
use Rattle.line.proofs.draw_line.Goals as goal

pub returns-then-abs_diff : goal.returns-then-abs_diff
returns-then-abs_diff c = line_flat _ _ _ _ _ _ _ (search rules) c.trace.ensures

pub returns-else-abs_diff : goal.returns-else-abs_diff
returns-else-abs_diff c = line_steep _ _ _ _ _ _ _ (search rules) c.trace-else-abs_diff.ensures
