use mathlib.Core.Path.{◌∙◌}
use borrow.Author.Tests.{not-true, not-false, lt-leb}
use Rattle.fonts.proofs.Ways.{font_short, font_nominal, font_height, font_order, font_table, font_entries}
use borrow.Author.Rules.{rules}
use native.Mathlib.Omega.{arith}
use Rattle.fonts.proofs.is_font.Goals as goal

pub returns-then-file-lt-HEADER : goal.returns-then-file-lt-HEADER
returns-then-file-lt-HEADER c = font_short _ _ (search rules)

pub returns-then-not-is_between : goal.returns-then-not-is_between
returns-then-not-is_between c = font_nominal _ _ _ _ (search rules) c.nominal_width.ensures c.is_between.ensures (not-true _ c.if-not-is_between.true-raw)

pub returns-then-not-is_between-2 : goal.returns-then-not-is_between-2
returns-then-not-is_between-2 c = font_height _ _ _ _ (search rules) c.nominal_width.ensures c.is_between.ensures (not-false _ c.if-not-is_between.false-raw) _ _ c.height.ensures c.is_between-2.ensures (not-true _ c.if-not-is_between-2.true-raw)

pub returns-then-to-from : goal.returns-then-to-from
returns-then-to-from c = font_order _ _ _ _ (search rules) c.nominal_width.ensures c.is_between.ensures (not-false _ c.if-not-is_between.false-raw) _ _ c.height.ensures c.is_between-2.ensures (not-false _ c.if-not-is_between-2.false-raw) _ _ c.first-from.ensures c.last-to.ensures (search rules)

pub returns-else-n-file : goal.returns-else-n-file
returns-else-n-file c = lt-leb _ _ (omega arith) ∙ font_table _ _ _ _ (search rules) c.nominal_width.ensures c.is_between.ensures (not-false _ c.if-not-is_between.false-raw) _ _ c.height.ensures c.is_between-2.ensures (not-false _ c.if-not-is_between-2.false-raw) _ _ c.first-from.ensures c.last-to.ensures c.from-n.result (search rules) (omega arith) (omega arith)

pub returns-then-n-file : goal.returns-then-n-file
returns-then-n-file c = font_entries _ _ _ _ (search rules) c.nominal_width.ensures c.is_between.ensures (not-false _ c.if-not-is_between.false-raw) _ _ c.height.ensures c.is_between-2.ensures (not-false _ c.if-not-is_between-2.false-raw) _ _ c.first-from.ensures c.last-to.ensures c.from-n.result _ (search rules) (omega arith) (omega arith) c.are_entries.ensures
