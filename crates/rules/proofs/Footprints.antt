-- FOOTPRINTS FROM BOTH SIDES, by worked examples: for each kind one stream after which a bar is still known, and one after which it is not.
-- On a framebuffer of 8 rows, with bitmap 5 (3 by 2) in the store. Bar 0 grows from the left, from (10, 2) to (19, 5), and was written with 0.
-- Assumes nothing.
use mathlib.Core.Path.{◌≡◌, refl}
use mathlib.Core.Bool.{Bool, true, false}
use mathlib.Core.List.{List, [], ◌∷◌, ◌++◌}
use Prim.Native.Nat.{ℕ}
use lib.ListN.{replicate}
use Rattle.pixels.specs.Framebuffer.{repaint, picture, bytes_of}
use Rattle.pixels.specs.Regions.{within, some, touches}
use Rattle.line.specs.Line.{towards, rise, line_x, line_y}
use Rattle.rectangle.specs.Frame.{frame}
use Rattle.bar_graph.specs.Bars.{length_of, held_to, write_of}
use Rattle.bar_ledger.specs.Ledger.{opened, ledger_along, recorded, touched, written}
use Rattle.directory.specs.Directory.{has_file, entries_from, read_from, step_at, entry_at, find_in, bytes_in, sizes_in}
use Rattle.directory.specs.Directory as directory
use Rattle.files.specs.Files.{appended, record_bytes}
use Rattle.fonts.specs.Fonts.{offset_at, width_at}
use Rattle.fonts.specs.Bitmaps.{packed_bytes, is_bitmap}
use Rattle.opened_font.specs.Glyphs.{glyph_of, glyph_in}
use Rattle.builtin_font.specs.Table.{table}
use Rattle.state.specs.State.{config, start_state}
use Rattle.state.specs.Commands.{command_of}
use Rattle.rules.specs.World.{World, world}
use Rattle.rules.specs.Fonts.{open_font}
use Rattle.rules.specs.Text.{wrapped, fitted, missing, drawn_by, drawn_at, drawn_on, character_in, character}
use Rattle.rules.specs.Drawing.{clear, set_colour, draw_pixel, draw_line, draw_frame, fill_rectangle}
use Rattle.rules.specs.Bars.{set_up_bar, write_bar, set_up_strip, shift_strip}
use Rattle.rules.specs.Pictures.{bitmap_in, bitmap_at, show_bitmap, begin_inline, inline_data}
use Rattle.rules.specs.Files.{lacks_space, begin_upload, upload_data}
use Rattle.rules.specs.Settings.{set_contrast}
use Rattle.rules.specs.Step.{obey, code, argument, alone, by_phase, refuse, after, step}
use Rattle.rules.specs.Calls.{bytes}
use Rattle.rules.specs.Events.{view, event, meant, meaning, character_event}

abbrev pub begun : World
begun = world (replicate 240 0) (2 ∷ 5 ∷ 3 ∷ 0 ∷ (replicate 252 0 ++ (3 ∷ 2 ∷ 160 ∷ replicate 765 0))) (start_state (config 8 1) 3)

abbrev pub bar : List ℕ
bar = 254 ∷ 103 ∷ 0 ∷ 1 ∷ 10 ∷ 2 ∷ 19 ∷ 5 ∷ 254 ∷ 105 ∷ 0 ∷ 0 ∷ []

-- is bar 0 known after these bytes?
abbrev pub known : List ℕ → Bool
known l = (ledger_along step event (opened (view begun)) begun (bytes (bar ++ l)) 0).known

-- its own writes: 0 makes it known, another value does not change that; a new set-up ends it
pub own_writes : (known [] ≡ true)
    × (known (254 ∷ 105 ∷ 0 ∷ 7 ∷ 254 ∷ 105 ∷ 0 ∷ 3 ∷ []) ≡ true)
    × (known (254 ∷ 103 ∷ 0 ∷ 1 ∷ 10 ∷ 2 ∷ 19 ∷ 5 ∷ []) ≡ false)
    × (known (254 ∷ 103 ∷ 0 ∷ 1 ∷ 10 ∷ 2 ∷ 19 ∷ 5 ∷ 254 ∷ 105 ∷ 0 ∷ 7 ∷ []) ≡ false)
unfolding bytes ledger_along step event meant meaning by_phase alone code argument obey command_of after refuse recorded touched written set_up_bar write_bar repaint picture bytes_of within some touches length_of held_to write_of
own_writes = (refl, refl, refl, refl)

-- another bar's set-up; its write, beside it and over it by one column
pub other_bars : (known (254 ∷ 103 ∷ 1 ∷ 0 ∷ 19 ∷ 2 ∷ 29 ∷ 7 ∷ []) ≡ true)
    × (known (254 ∷ 103 ∷ 1 ∷ 0 ∷ 20 ∷ 2 ∷ 29 ∷ 7 ∷ 254 ∷ 105 ∷ 1 ∷ 9 ∷ []) ≡ true)
    × (known (254 ∷ 103 ∷ 1 ∷ 0 ∷ 19 ∷ 2 ∷ 29 ∷ 7 ∷ 254 ∷ 105 ∷ 1 ∷ 9 ∷ []) ≡ false)
unfolding bytes ledger_along step event meant meaning by_phase alone code argument obey command_of after refuse recorded touched written set_up_bar write_bar repaint picture bytes_of within some touches length_of held_to write_of
other_bars = (refl, refl, refl)

-- refusals: a write to no bar, a set-up with its corners out of order, a frame so, an unknown code
pub refusals : (known (254 ∷ 105 ∷ 16 ∷ 0 ∷ []) ≡ true)
    × (known (254 ∷ 103 ∷ 0 ∷ 0 ∷ 19 ∷ 5 ∷ 10 ∷ 2 ∷ []) ≡ true)
    × (known (254 ∷ 114 ∷ 1 ∷ 30 ∷ 7 ∷ 0 ∷ 0 ∷ []) ≡ true)
    × (known (254 ∷ 3 ∷ []) ≡ true)
unfolding bytes ledger_along step event meant meaning by_phase alone code argument obey command_of after refuse recorded touched written set_up_bar write_bar repaint picture bytes_of within some touches length_of held_to write_of draw_frame
refusals = (refl, refl, refl, refl)

-- what paints nothing: 254 alone, a code, arguments before the last one, settings, the text point inside it
pub quiet_bytes : (known (254 ∷ []) ≡ true)
    × (known (254 ∷ 120 ∷ []) ≡ true)
    × (known (254 ∷ 120 ∷ 1 ∷ 0 ∷ 0 ∷ 239 ∷ []) ≡ true)
    × (known (254 ∷ 99 ∷ 0 ∷ 254 ∷ 80 ∷ 9 ∷ 254 ∷ 121 ∷ 12 ∷ 3 ∷ []) ≡ true)
unfolding bytes ledger_along step event meant meaning by_phase alone code argument obey command_of after refuse recorded touched written set_up_bar write_bar repaint picture bytes_of within some touches length_of held_to write_of set_colour set_contrast
quiet_bytes = (refl, refl, refl, refl)

-- an upload, from its code to its last byte
pub uploads : (known (254 ∷ 94 ∷ 1 ∷ 2 ∷ 0 ∷ []) ≡ true)
    × (known (254 ∷ 94 ∷ 1 ∷ 2 ∷ 0 ∷ 7 ∷ 1 ∷ 7 ∷ 1 ∷ []) ≡ true)
unfolding bytes ledger_along step event meant meaning by_phase alone code argument obey command_of after refuse recorded touched written set_up_bar write_bar repaint picture bytes_of within some touches length_of held_to write_of begin_upload lacks_space upload_data has_file entries_from read_from step_at entry_at directory.length_of directory.sort_of sizes_in appended record_bytes bytes_in
uploads = (refl, refl)

-- a pixel beside it and one inside
pub pixels : (known (254 ∷ 112 ∷ 20 ∷ 3 ∷ []) ≡ true)
    × (known (254 ∷ 112 ∷ 19 ∷ 3 ∷ []) ≡ false)
unfolding bytes ledger_along step event meant meaning by_phase alone code argument obey command_of after refuse recorded touched written set_up_bar write_bar repaint picture bytes_of within some touches length_of held_to write_of draw_pixel
pixels = (refl, refl)

-- a line that passes a corner by, and one that cuts it
pub lines : (known (254 ∷ 108 ∷ 5 ∷ 2 ∷ 10 ∷ 7 ∷ []) ≡ true)
    × (known (254 ∷ 108 ∷ 5 ∷ 2 ∷ 10 ∷ 2 ∷ []) ≡ false)
unfolding bytes ledger_along step event meant meaning by_phase alone code argument obey command_of after refuse recorded touched written set_up_bar write_bar repaint picture bytes_of within some touches length_of held_to write_of draw_line towards rise line_x line_y
lines = (refl, refl)

-- a frame around it and one along its edge
pub frames : (known (254 ∷ 114 ∷ 1 ∷ 9 ∷ 1 ∷ 20 ∷ 6 ∷ []) ≡ true)
    × (known (254 ∷ 114 ∷ 1 ∷ 9 ∷ 1 ∷ 20 ∷ 5 ∷ []) ≡ false)
unfolding bytes ledger_along step event meant meaning by_phase alone code argument obey command_of after refuse recorded touched written set_up_bar write_bar repaint picture bytes_of within some touches length_of held_to write_of draw_frame frame
frames = (refl, refl)

-- a solid rectangle beside it and one over a corner
pub solids : (known (254 ∷ 120 ∷ 1 ∷ 0 ∷ 0 ∷ 9 ∷ 7 ∷ []) ≡ true)
    × (known (254 ∷ 120 ∷ 1 ∷ 0 ∷ 0 ∷ 10 ∷ 2 ∷ []) ≡ false)
unfolding bytes ledger_along step event meant meaning by_phase alone code argument obey command_of after refuse recorded touched written set_up_bar write_bar repaint picture bytes_of within some touches length_of held_to write_of fill_rectangle
solids = (refl, refl)

-- clear
pub cleared : (known (254 ∷ 88 ∷ []) ≡ false)
unfolding bytes ledger_along step event meant meaning by_phase alone code argument obey command_of after refuse recorded touched written set_up_bar write_bar repaint picture bytes_of within some touches length_of held_to write_of clear
cleared = (refl)

-- a strip set up over it, and shifted beside it and over it
pub strips : (known (254 ∷ 106 ∷ 0 ∷ 0 ∷ 0 ∷ 30 ∷ 7 ∷ []) ≡ true)
    × (known (254 ∷ 106 ∷ 0 ∷ 20 ∷ 0 ∷ 30 ∷ 7 ∷ 254 ∷ 107 ∷ 0 ∷ []) ≡ true)
    × (known (254 ∷ 106 ∷ 0 ∷ 0 ∷ 0 ∷ 10 ∷ 2 ∷ 254 ∷ 107 ∷ 0 ∷ []) ≡ false)
unfolding bytes ledger_along step event meant meaning by_phase alone code argument obey command_of after refuse recorded touched written set_up_bar write_bar repaint picture bytes_of within some touches length_of held_to write_of set_up_strip shift_strip
strips = (refl, refl, refl)

-- a saved bitmap beside it and over it; one that is not there
pub bitmaps : (known (254 ∷ 98 ∷ 5 ∷ 7 ∷ 2 ∷ []) ≡ true)
    × (known (254 ∷ 98 ∷ 5 ∷ 8 ∷ 1 ∷ []) ≡ false)
    × (known (254 ∷ 98 ∷ 6 ∷ []) ≡ true)
unfolding bytes ledger_along step event meant meaning by_phase alone code argument obey command_of after refuse recorded touched written set_up_bar write_bar repaint picture bytes_of within some touches length_of held_to write_of bitmap_in bitmap_at show_bitmap is_bitmap packed_bytes has_file entries_from read_from step_at entry_at directory.length_of directory.sort_of find_in
bitmaps = (refl, refl, refl)

-- data in line beside it; over it, from the fourth corner on
pub data_in_line : (known (254 ∷ 100 ∷ 0 ∷ 0 ∷ 9 ∷ 7 ∷ 255 ∷ []) ≡ true)
    × (known (254 ∷ 100 ∷ 0 ∷ 0 ∷ 10 ∷ 2 ∷ []) ≡ false)
unfolding bytes ledger_along step event meant meaning by_phase alone code argument obey command_of after refuse recorded touched written set_up_bar write_bar repaint picture bytes_of within some touches length_of held_to write_of begin_inline inline_data
data_in_line = (refl, refl)

-- a character beside it and on it; one that scrolls; one for which there is no room
pub characters : (known (254 ∷ 121 ∷ 20 ∷ 0 ∷ 65 ∷ []) ≡ true)
    × (known (254 ∷ 121 ∷ 6 ∷ 1 ∷ 65 ∷ []) ≡ false)
    × (known (254 ∷ 121 ∷ 236 ∷ 0 ∷ 65 ∷ []) ≡ false)
    × (known (254 ∷ 121 ∷ 20 ∷ 2 ∷ 65 ∷ []) ≡ true)
unfolding bytes ledger_along step event meant meaning by_phase alone code argument obey command_of after refuse recorded touched written set_up_bar write_bar repaint picture bytes_of within some touches length_of held_to write_of character_event character character_in drawn_by drawn_on drawn_at open_font glyph_of glyph_in table offset_at width_at wrapped fitted
characters = (refl, refl, refl, refl)

-- a character that the font lacks: its box beside it and on it; one that scrolls; one for which there is no room; one that is ignored, on it
pub boxes : (known (254 ∷ 121 ∷ 20 ∷ 0 ∷ 200 ∷ []) ≡ true)
    × (known (254 ∷ 121 ∷ 6 ∷ 1 ∷ 200 ∷ []) ≡ false)
    × (known (254 ∷ 121 ∷ 236 ∷ 0 ∷ 200 ∷ []) ≡ false)
    × (known (254 ∷ 121 ∷ 20 ∷ 2 ∷ 200 ∷ []) ≡ true)
    × (known (254 ∷ 121 ∷ 12 ∷ 1 ∷ 13 ∷ []) ≡ true)
unfolding bytes ledger_along step event meant meaning by_phase alone code argument obey command_of after refuse recorded touched written set_up_bar write_bar repaint picture bytes_of within some touches length_of held_to write_of character_event character character_in missing drawn_by drawn_on drawn_at open_font glyph_of glyph_in table wrapped fitted
boxes = (refl, refl, refl, refl, refl)
