use Rattle.opened_font.proofs.Ways.{below, above, among}
use borrow.Author.Rules.{rules}
use Rattle.opened_font.proofs.glyph_in.Goals as goal

pub returns-then-character-first : goal.returns-then-character-first
returns-then-character-first c = below _ _ _ _ (search rules)

pub returns-then-last-character : goal.returns-then-last-character
returns-then-last-character c = above _ _ _ _ _ (search rules) c.last.ensures (search rules)

pub returns : goal.returns
returns c = among _ _ _ _ _ (search rules) c.last.ensures _ (search rules) c.entry_at-e.ensures
