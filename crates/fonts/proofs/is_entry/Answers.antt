use mathlib.Core.Path.{◌∙◌}
use Rattle.fonts.proofs.Ways.{entry_narrow, entry_ends}
use Rattle.fonts.proofs.is_entry.Goals as goal

pub returns-then-is_between : goal.returns-then-is_between
returns-then-is_between c = entry_ends _ _ _ _ _ _ _ c.width_at-width.ensures c.is_between.ensures c.if-is_between.true c.height.ensures c.packed_bytes.ensures.0 c.offset_at.ensures.0

pub returns-else-is_between : goal.returns-else-is_between
returns-else-is_between c = c.if-is_between.false ∙ entry_narrow _ _ _ _ c.width_at-width.ensures c.is_between.ensures c.if-is_between.false
