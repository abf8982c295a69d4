-- Worked examples, by computing.
-- Assumes nothing.
use mathlib.Core.Path.{◌≡◌, refl}
use Rattle.fonts.specs.Fonts.{offset_at, width_at}
use Rattle.fonts.proofs.Examples.{small}
use Rattle.std.specs.Prelude.{Some, None}
use Rattle.opened_font.specs.Glyphs.{glyph_in, glyph_of}

pub small_last : glyph_of small 66 ≡ Some (record { offset = 12; width = 4; height = 5 })
unfolding glyph_of glyph_in offset_at width_at
small_last = refl

pub small_before : glyph_of small 64 ≡ None
unfolding glyph_of glyph_in
small_before = refl

pub small_behind : glyph_of small 67 ≡ None
unfolding glyph_of glyph_in
small_behind = refl
