use Rattle.opened_font.specs.Glyphs.{glyph_of}
use Rattle.opened_font.proofs.glyph_of.Goals as goal

pub returns : goal.returns
unfolding glyph_of
returns c = rw c.open.ensures at c.lookup.ensures
