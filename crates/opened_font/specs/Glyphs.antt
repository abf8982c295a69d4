-- An opened font, and the glyphs of its characters.
-- Assumes nothing.
use Rattle.std.specs.Prelude.{List, Option, Some, None, cond, ◌&&◌, ℕ, ◌-◌, leb}
use Rattle.std.specs.Borrow.{Bor}
use Rattle.fonts.specs.Fonts.{height_of, first_of, last_of, offset_at, width_at}
use Rattle.opened_font.specs.declared.Font.{Font}
use Rattle.opened_font.specs.declared.Glyph.{Glyph}

-- an opened font: the part of the store that its file occupies, with its sizes
abbrev pub font_of : Bor (List ℕ) → Font
font_of s = record { file = s; height = height_of s.now; first = first_of s.now }

-- the glyph of character c in a font of height h whose first character is f
unfoldable pub glyph_in : List ℕ → ℕ → ℕ → ℕ → Option Glyph
glyph_in s h f c = cond (leb f c && leb c (last_of s)) (Some (record { offset = offset_at s (c - f); width = width_at s (c - f); height = h })) None

-- and in a font's file
unfoldable pub glyph_of : List ℕ → ℕ → Option Glyph
glyph_of s c = glyph_in s (height_of s) (first_of s) c
