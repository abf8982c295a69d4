-- Text: the text point, the current font and its metrics, and characters.
-- Assumes nothing.
use Rattle.std.specs.Prelude.{Option, Some, None, List, [], Bool, true, cond, not, ◌&&◌, ◌||◌, ℕ, ◌+◌, ◌-◌, ◌*◌, eqb, leb, drop}
use Rattle.refusals.specs.Refusals.{out_of_bounds, number_out_of_range, glyph_does_not_fit, accepted}
use Rattle.pixels.specs.Framebuffer.{Picture, width, put, plain}
use Rattle.pixels.specs.Regions.{box}
use Rattle.bitmap.specs.Bitmaps.{packed}
use Rattle.scroll.specs.Scroll.{scrolled}
use Rattle.fonts.specs.Fonts.{nominal_width, height_of}
use Rattle.opened_font.specs.declared.Glyph.{Glyph}
use Rattle.opened_font.specs.Glyphs.{glyph_of}
use Rattle.state.specs.declared.Text.{Text}
use Rattle.rules.specs.World.{World, height, port, with_framebuffer, put_text, Outcome, quietly, refused, refuse_if, arg}
use Rattle.rules.specs.Numbers.{too_high}
use Rattle.rules.specs.Fonts.{Opened, opened, shut, open_font}

-- ---- settings

abbrev pub text_of : ℕ → ℕ → ℕ → ℕ → ℕ → ℕ → ℕ → ℕ → Bool → Bool → Text
text_of font x y left top charSpace lineSpace scrollRow wrap scroll =
    record { font = font; x = x; y = y; left = left; top = top; char_space = charSpace; line_space = lineSpace; scroll_row = scrollRow; wrap = wrap; scroll = scroll }

abbrev pub at_point : Text → ℕ → ℕ → Text
at_point t x y = text_of t.font x y t.left t.top t.char_space t.line_space t.scroll_row t.wrap t.scroll

-- (left margin, top margin)
abbrev pub home : Text → Text
home t = at_point t t.left t.top

abbrev pub with_font : Text → ℕ → Text
with_font t n = text_of n t.x t.y t.left t.top t.char_space t.line_space t.scroll_row t.wrap t.scroll

abbrev pub with_wrap : Text → Bool → Text
with_wrap t b = text_of t.font t.x t.y t.left t.top t.char_space t.line_space t.scroll_row b t.scroll

abbrev pub with_scroll : Text → Bool → Text
with_scroll t b = text_of t.font t.x t.y t.left t.top t.char_space t.line_space t.scroll_row t.wrap b

-- left, top, character space, line space, scroll row
abbrev pub with_metrics : Text → List ℕ → Text
with_metrics t a = text_of t.font t.x t.y (arg a 0) (arg a 1) (arg a 2) (arg a 3) (arg a 4) t.wrap t.scroll

-- ---- commands

-- the current font: 19, 22, 23
unfoldable pub font_chosen : World → ℕ → Opened → Outcome
font_chosen w n (opened f) = quietly (put_text w (with_font (port w).text n))
font_chosen w n (shut r) = refused r []

unfoldable pub choose_font : World → ℕ → Outcome
choose_font w n = refuse_if (too_high n) number_out_of_range (font_chosen w n (open_font (height w) w.store n))

-- the text point by column and row, from 1, of a font's nominal width and height: 17
abbrev pub place_x : Text → List ℕ → ℕ → ℕ
place_x t f column = t.left + (column - 1) * (nominal_width f + t.char_space)

abbrev pub place_y : Text → List ℕ → ℕ → ℕ
place_y t f row = t.top + (row - 1) * (height_of f + t.line_space)

unfoldable pub place_in : World → ℕ → ℕ → Opened → Outcome
place_in w column row (shut r) = refused r []
place_in w column row (opened f) =
    refuse_if (eqb column 0 || eqb row 0 || leb width (place_x (port w).text f column) || leb (height w) (place_y (port w).text f row)) out_of_bounds
    (quietly (put_text w (at_point (port w).text (place_x (port w).text f column) (place_y (port w).text f row))))

unfoldable pub set_place : World → ℕ → ℕ → Outcome
set_place w column row = place_in w column row (open_font (height w) w.store (port w).text.font)

-- ---- characters

-- where a character goes, and by how many rows the framebuffer moves up first; or nowhere
pub data Place : Type 0 where
  place : ℕ → ℕ → ℕ → Place
  nowhere : Place

-- 29: no room for the character
abbrev pub place_number : Place → ℕ
place_number (place x y up) = accepted
place_number nowhere = glyph_does_not_fit

-- a glyph, so wide and so tall, that passes the last column: to the next line, on the framebuffer moved up, or to the top
unfoldable pub wrapped : Text → ℕ → ℕ → Place
wrapped t wide tall =
    cond (leb (t.x + wide) width) (place t.x t.y 0)
    (cond (not t.wrap) nowhere
    (cond (leb (t.y + tall + t.line_space + tall) t.scroll_row) (place t.left (t.y + tall + t.line_space) 0)
    (cond t.scroll (place t.left t.y (tall + t.line_space))
    (place t.left t.top 0))))

-- nowhere, too, if the box then passes the last column or the last of h rows
unfoldable pub fitted : ℕ → ℕ → ℕ → Place → Place
fitted h wide tall nowhere = nowhere
fitted h wide tall (place x y up) = cond (leb (x + wide) width && leb (y + tall) h) (place x y up) nowhere

abbrev pub moved_up : ℕ → List ℕ → List ℕ
moved_up n g = cond (eqb n 0) g (scrolled n g)

-- what is painted in a character's box: set bits of packed rows black and clear ones white, or all of it black
pub data Ink : Type 0 where
  rows : List ℕ → Ink
  solid : Ink

abbrev pub inked : Ink → ℕ → ℕ → ℕ → Picture
inked (rows bits) x y wide = packed x y wide bits
inked solid x y wide = plain true

-- what a character is drawn as: ink in a box, so wide and so tall; or it is ignored
pub data Drawn : Type 0 where
  drawn : Ink → ℕ → ℕ → Drawn
  ignored : Drawn

-- carriage return, line feed and backspace
abbrev pub is_ignored : ℕ → Bool
is_ignored c = eqb c 13 || eqb c 10 || eqb c 8

-- a character that a font of this nominal width and this height lacks: these three are ignored, and any other is a black box
unfoldable pub missing : ℕ → ℕ → ℕ → Drawn
missing c wide tall = cond (is_ignored c) ignored (drawn solid wide tall)

-- a character c of a font's file, by its glyph
unfoldable pub drawn_by : List ℕ → ℕ → Option Glyph → Drawn
drawn_by f c (Some g) = drawn (rows (drop g.offset f)) g.width g.height
drawn_by f c None = missing c (nominal_width f) (height_of f)

-- the box is painted, and x grows by width and character space: 29
unfoldable pub drawn_at : World → Ink → ℕ → ℕ → Place → Outcome
drawn_at w ink wide tall nowhere = refused (place_number nowhere) []
drawn_at w ink wide tall (place x y up) =
    quietly (put_text (with_framebuffer w (put (box x (x + wide) y (y + tall)) (inked ink x y wide) (moved_up up w.framebuffer))) (at_point (port w).text (x + wide + (port w).text.char_space) y))

-- what is ignored changes nothing
unfoldable pub drawn_on : World → Drawn → Outcome
drawn_on w ignored = quietly w
drawn_on w (drawn ink wide tall) = drawn_at w ink wide tall (fitted (height w) wide tall (wrapped (port w).text wide tall))

unfoldable pub character_in : World → ℕ → Opened → Outcome
character_in w c (shut r) = refused r []
character_in w c (opened f) = drawn_on w (drawn_by f c (glyph_of f c))

-- any byte but 254 outside a command: 22, 23, 29
unfoldable pub character : World → ℕ → Outcome
character w c = character_in w c (open_font (height w) w.store (port w).text.font)
