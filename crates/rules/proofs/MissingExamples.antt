-- Characters that a font lacks, by worked examples, on a framebuffer of 8 rows. Font 1 is 5 by 7 and has 32 to 126; font 2 is malformed, and there is no
-- font 3.
-- Assumes nothing.
use mathlib.Core.Path.{◌≡◌, refl}
use mathlib.Core.Bool.{false}
use mathlib.Core.List.{List, [], ◌∷◌, ◌++◌}
use Prim.Native.Nat.{ℕ}
use lib.ListN.{replicate}
use Rattle.pixels.specs.Framebuffer.{repaint, picture, bytes_of, byte_of, digit, pixel, bit_of}
use Rattle.pixels.specs.Regions.{within}
use Rattle.directory.specs.Directory.{entries_from, read_from, step_at, entry_at, find_in, sizes_in}
use Rattle.directory.specs.Directory as directory
use Rattle.fonts.specs.Checks.{between}
use Rattle.fonts.specs.Bitmaps.{packed_bytes}
use Rattle.fonts.specs.Fonts.{offset_at, width_at, is_entry, are_entries, is_font}
use Rattle.fonts.proofs.Examples.{small}
use Rattle.opened_font.specs.Glyphs.{glyph_of, glyph_in}
use Rattle.builtin_font.specs.Table.{table}
use Rattle.state.specs.State.{config, start_state}
use Rattle.rules.specs.World.{World, world, port, with_framebuffer, put_text, refused}
use Rattle.rules.specs.Fonts.{opened, open_font, opened_at}
use Rattle.rules.specs.Text.{at_point, with_font, with_wrap, with_scroll, wrapped, fitted, missing, drawn_by, drawn_at, drawn_on, character_in, character}
use Rattle.rules.specs.Step.{after}

abbrev held : World
held =
    world (replicate 240 0)
    (1 ∷ 2 ∷ 3 ∷ 0 ∷ (replicate 252 0 ++ (1 ∷ 1 ∷ 65 ∷ replicate 765 0))) (start_state (config 8 1) 3)

-- with font n at (x, y)
abbrev at : ℕ → ℕ → ℕ → World
at n x y = put_text held (with_font (at_point (port held).text x y) n)

-- what a character leaves there
abbrev shown : World → ℕ → World
shown w c = after w (character w c)

abbrev column : World → ℕ → ℕ
column w c = (port (shown w c)).text.x

-- seven rows that begin with these two bytes, and a white one
abbrev seven : ℕ → ℕ → List ℕ
seven a b = row ++ (row ++ (row ++ (row ++ (row ++ (row ++ (row ++ replicate 30 0))))))
  where
    row : List ℕ
    row = a ∷ b ∷ replicate 28 0

-- a box of 5 by 7, at home and across two bytes
pub boxes : ((shown (at 1 0 0) 200).framebuffer ≡ seven 248 0) × ((shown (at 1 6 0) 31).framebuffer ≡ seven 3 224)
unfolding character character_in missing drawn_by drawn_on drawn_at glyph_of glyph_in wrapped fitted open_font after table repaint picture bytes_of byte_of digit pixel bit_of within
boxes = (refl, refl)

-- each side of the built-in font's characters, and of the three that are ignored
pub lacked : (column (at 1 0 0) 0 ≡ 5) × (column (at 1 0 0) 31 ≡ 5) × (column (at 1 0 0) 127 ≡ 5) × (column (at 1 0 0) 255 ≡ 5)
    × (column (at 1 0 0) 7 ≡ 5) × (column (at 1 0 0) 9 ≡ 5) × (column (at 1 0 0) 11 ≡ 5) × (column (at 1 0 0) 12 ≡ 5) × (column (at 1 0 0) 14 ≡ 5)
unfolding character character_in missing drawn_by drawn_on drawn_at glyph_of glyph_in wrapped fitted open_font after table
lacked = (refl, refl, refl, refl, refl, refl, refl, refl, refl)

-- 13, 10 and 8 change nothing, also where no character has room
pub ignores : (shown (at 1 0 0) 13 ≡ at 1 0 0) × (shown (at 1 0 0) 10 ≡ at 1 0 0) × (shown (at 1 0 0) 8 ≡ at 1 0 0) × (shown (at 1 236 9) 13 ≡ at 1 236 9)
unfolding character character_in missing drawn_by drawn_on drawn_at glyph_of glyph_in wrapped fitted open_font after table
ignores = (refl, refl, refl, refl)

-- characters 9 and 10, 2 high and 2 wide, with a nominal width of 6
abbrev wide : List ℕ
wide = 6 ∷ 2 ∷ 9 ∷ 10 ∷ 0 ∷ 10 ∷ 2 ∷ 0 ∷ 10 ∷ 2 ∷ 144 ∷ []

-- what a character of a font's file leaves at home
abbrev shown_in : List ℕ → ℕ → World
shown_in f c = after (at 1 0 0) (character_in (at 1 0 0) c (opened f))

abbrev column_in : List ℕ → ℕ → ℕ
column_in f c = (port (shown_in f c)).text.x

-- the nominal width, and not that of the font's glyphs; a font that has 10 shows it, and lacks 13 and 8
pub fonts : (column_in small 66 ≡ 4) × (column_in small 67 ≡ 3) × (column_in small 64 ≡ 3) × (column_in wide 9 ≡ 2) × (column_in wide 11 ≡ 6) × (column_in wide 10 ≡ 2)
    × (shown_in wide 13 ≡ at 1 0 0) × (shown_in wide 8 ≡ at 1 0 0)
unfolding character_in missing drawn_by drawn_on drawn_at glyph_of glyph_in wrapped fitted offset_at width_at after
fonts = (refl, refl, refl, refl, refl, refl, refl, refl)

-- no font, or none that is well formed, lacks anything
pub font_first : (character (at 2 0 0) 13 ≡ refused 23 []) × (character (at 2 0 0) 200 ≡ refused 23 []) × (character (at 3 0 0) 10 ≡ refused 22 []) × (character (at 3 0 0) 8 ≡ refused 22 [])
unfolding character character_in open_font opened_at is_font are_entries is_entry offset_at width_at between packed_bytes read_from entries_from entry_at step_at directory.length_of directory.sort_of sizes_in find_in
font_first = (refl, refl, refl, refl)

-- the line's end: to its last column; without wrap no room; moved up, all that was black gone; at the top margin; and below, no room
abbrev unwrapped : World
unwrapped = put_text (at 1 236 0) (with_wrap (port (at 1 236 0)).text false)

abbrev unscrolled : World
unscrolled = put_text (at 1 236 1) (with_scroll (port (at 1 236 1)).text false)

abbrev blackened : World
blackened = with_framebuffer (at 1 236 0) (replicate 240 255)

pub ends : (column (at 1 235 0) 200 ≡ 240) × (character unwrapped 200 ≡ refused 29 []) × ((shown blackened 200).framebuffer ≡ seven 248 0)
    × ((port (shown unscrolled 200)).text.y ≡ 0) × (character (at 1 0 2) 200 ≡ refused 29 [])
unfolding character character_in missing drawn_by drawn_on drawn_at glyph_of glyph_in wrapped fitted open_font after table repaint picture bytes_of byte_of digit pixel bit_of within
ends = (refl, refl, refl, refl, refl)
