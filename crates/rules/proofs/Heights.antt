-- Worked examples of the height: where each limit lies on the low framebuffer and on the tall one.
-- Assumes nothing.
use mathlib.Core.Path.{◌≡◌, refl}
use mathlib.Core.Bool.{true}
use mathlib.Core.List.{[], ◌∷◌, ◌++◌}
use Prim.Native.Nat.{ℕ}
use lib.ListN.{get_or, replicate}
use Rattle.canvas.specs.Sizes.{length_for}
use Rattle.pixels.specs.Framebuffer.{digit, bit_of, byte_of, bytes_of, pixel, picture, repaint}
use Rattle.pixels.specs.Regions.{within}
use Rattle.directory.specs.Directory.{step_at, entry_at, read_from, entries_from, sizes_in, find_in}
use Rattle.directory.specs.Directory as directory
use Rattle.fonts.specs.Bitmaps.{packed_bytes}
use Rattle.fonts.specs.Checks.{between}
use Rattle.fonts.specs.Fonts.{offset_at, width_at, is_entry, are_entries, is_font}
use Rattle.opened_font.specs.Glyphs.{glyph_in, glyph_of}
use Rattle.builtin_font.specs.Table.{table}
use Rattle.state.specs.declared.Text.{Text}
use Rattle.state.specs.State.{config, start_state, bar_at, strip_at}
use Rattle.rules.specs.World.{World, world, port, panel, put_text, Outcome, refused}
use Rattle.rules.specs.Text.{with_metrics, with_font, at_point, wrapped, fitted, drawn_by, drawn_at, drawn_on, character_in, character, font_chosen, choose_font, place_in, set_place}
use Rattle.rules.specs.Fonts.{open_font, opened_at}
use Rattle.rules.specs.Drawing.{draw_pixel}
use Rattle.rules.specs.Bars.{set_up_bar, set_up_strip}
use Rattle.rules.specs.Files.{purge}
use Rattle.rules.specs.Step.{after}

-- h rows, just started
abbrev fresh : ℕ → World
fresh h = world (replicate (length_for h) 0) (replicate 1024 0) (start_state (config h 1) 0)

-- what an outcome leaves of it
abbrev then : ℕ → (World → Outcome) → World
then h rule = after (fresh h) (rule (fresh h))

abbrev text_of : World → Text
text_of w = (port w).text

-- ---- pixels: the last one is the last bit

pub corners : (get_or (then 64 (λ w. draw_pixel w 239 63)).framebuffer 1919 0 ≡ 1) × (get_or (then 128 (λ w. draw_pixel w 239 127)).framebuffer 3839 0 ≡ 1)
unfolding draw_pixel after repaint picture bytes_of byte_of digit pixel bit_of within
corners = (refl, refl)

-- ---- bars and strips: the last row is h - 1

pub bar_rows : (set_up_bar (fresh 64) 0 0 0 0 1 64 ≡ refused 17 []) × ((bar_at (panel (then 64 (λ w. set_up_bar w 0 0 0 0 1 63))) 0).on ≡ true)
    × (set_up_bar (fresh 128) 0 0 0 0 1 128 ≡ refused 17 []) × ((bar_at (panel (then 128 (λ w. set_up_bar w 0 0 0 0 1 127))) 0).on ≡ true)
unfolding set_up_bar after
bar_rows = (refl, refl, refl, refl)

pub strip_rows : (set_up_strip (fresh 64) 0 0 0 1 64 ≡ refused 17 []) × ((strip_at (panel (then 64 (λ w. set_up_strip w 0 0 0 1 63))) 0).on ≡ true)
    × (set_up_strip (fresh 128) 0 0 0 1 128 ≡ refused 17 []) × ((strip_at (panel (then 128 (λ w. set_up_strip w 0 0 0 1 127))) 0).on ≡ true)
unfolding set_up_strip after
strip_rows = (refl, refl, refl, refl)

-- ---- the scroll row: the height at start, and again after a purge

abbrev metrics : World → World
metrics w = put_text w (with_metrics (text_of w) (1 ∷ 2 ∷ 3 ∷ 4 ∷ 5 ∷ []))

abbrev purged : ℕ → Text
purged h = text_of (after (metrics (fresh h)) (purge (metrics (fresh h)) 89 33))

pub scroll_rows : ((text_of (fresh 64)).scroll_row ≡ 64) × ((text_of (fresh 128)).scroll_row ≡ 128) × ((purged 64).scroll_row ≡ 64) × ((purged 128).scroll_row ≡ 128)
unfolding purge after
scroll_rows = (refl, refl, refl, refl)

-- ---- text: lines of eight rows, the box inside the framebuffer

abbrev at : ℕ → ℕ → World
at h y = put_text (fresh h) (at_point (text_of (fresh h)) 0 y)

pub boxes : (character (at 64 58) 65 ≡ refused 29 []) × ((text_of (after (at 64 57) (character (at 64 57) 65))).x ≡ 5)
    × (character (at 128 122) 65 ≡ refused 29 []) × ((text_of (after (at 128 121) (character (at 128 121) 65))).x ≡ 5)
unfolding character character_in drawn_by drawn_on drawn_at glyph_of glyph_in wrapped fitted open_font after table offset_at width_at
boxes = (refl, refl, refl, refl)

-- at the last column: to the next line, which ends before the scroll row, or the framebuffer moves up
abbrev wrapping : ℕ → ℕ → Text
wrapping h y = text_of (after (put_text (fresh h) (at_point (text_of (fresh h)) 236 y)) (character (put_text (fresh h) (at_point (text_of (fresh h)) 236 y)) 65))

pub wraps : ((wrapping 64 49).y ≡ 57) × ((wrapping 64 50).y ≡ 50) × ((wrapping 128 50).y ≡ 58) × ((wrapping 128 113).y ≡ 121) × ((wrapping 128 114).y ≡ 114)
unfolding character character_in drawn_by drawn_on drawn_at glyph_of glyph_in wrapped fitted open_font after table offset_at width_at
wraps = (refl, refl, refl, refl, refl)

pub lines : (set_place (fresh 64) 1 9 ≡ refused 17 []) × ((text_of (then 64 (λ w. set_place w 1 8))).y ≡ 56)
    × (set_place (fresh 128) 1 17 ≡ refused 17 []) × ((text_of (then 128 (λ w. set_place w 1 16))).y ≡ 120)
unfolding set_place place_in open_font after table
lines = (refl, refl, refl, refl)

-- ---- fonts: as high as the framebuffer at most

-- font 2, h rows high: character 65 alone, one column wide
abbrev holding : ℕ → ℕ → ℕ → World
holding rows h size =
    world (replicate (length_for rows) 0) (1 ∷ 2 ∷ size ∷ 0 ∷ replicate 252 0 ++ (1 ∷ h ∷ 65 ∷ 65 ∷ 0 ∷ 7 ∷ 1 ∷ replicate 761 255)) (start_state (config rows 1) size)

abbrev chosen : ℕ → ℕ → ℕ → ℕ
chosen rows h size = (text_of (after (holding rows h size) (choose_font (holding rows h size) 2))).font

pub font_heights : (chosen 64 64 15 ≡ 2) × (choose_font (holding 64 65 16) 2 ≡ refused 23 []) × (chosen 128 65 16 ≡ 2) × (chosen 128 128 23 ≡ 2)
    × (choose_font (holding 128 129 24) 2 ≡ refused 23 [])
unfolding choose_font font_chosen open_font opened_at is_font are_entries is_entry offset_at width_at between packed_bytes after read_from entries_from entry_at step_at directory.length_of directory.sort_of sizes_in find_in
font_heights = (refl, refl, refl, refl, refl)

-- the current font is checked where it is used, too
abbrev current : ℕ → World
current rows = put_text (holding rows 65 16) (with_font (text_of (holding rows 65 16)) 2)

pub font_used : (character (current 64) 65 ≡ refused 23 []) × (set_place (current 64) 1 1 ≡ refused 23 []) × ((text_of (after (current 128) (character (current 128) 65))).x ≡ 1)
    × ((text_of (after (current 128) (set_place (current 128) 1 1))).y ≡ 0)
unfolding character character_in drawn_by drawn_on drawn_at glyph_of glyph_in wrapped fitted set_place place_in open_font opened_at is_font are_entries is_entry offset_at width_at between packed_bytes after read_from entries_from entry_at step_at directory.length_of directory.sort_of sizes_in find_in
font_used = (refl, refl, refl, refl)
