-- Where the parts of the state stand in its record: the same numbers as the constants of the code.
-- Assumes nothing.
use Rattle.std.specs.Prelude.{ℕ, ◌+◌}

-- 0 idle, 1 prefix, 2 gathering, 3 in line, 4 upload
abbrev pub phase_at : ℕ
phase_at = 0

-- gathering: code, got
abbrev pub code_at : ℕ
code_at = 1

abbrev pub got_at : ℕ
got_at = 2

-- six arguments
abbrev pub arguments_at : ℕ
arguments_at = 3

-- data in line: x1, y1, x2, y2, done (2)
abbrev pub inline_at : ℕ
inline_at = 9

-- upload: sort, number (2), size (2), stored (2), waiting, byte, waited (2)
abbrev pub upload_at : ℕ
upload_at = 15

-- text: font (2), x (2), y, left, top, char_space, line_space, scroll_row, wrap, scroll
abbrev pub text_at : ℕ
text_at = 26

-- drawing: colour (1 black, 0 white), x, y
abbrev pub drawing_at : ℕ
drawing_at = 38

-- flow: on, full, empty
abbrev pub flow_at : ℕ
flow_at = 41

abbrev pub flow_full_at : ℕ
flow_full_at = 42

abbrev pub flow_empty_at : ℕ
flow_empty_at = 43

-- refusals: count (2), last
abbrev pub refusals_at : ℕ
refusals_at = 44

abbrev pub last_refusal_at : ℕ
last_refusal_at = 46

-- so many bytes belong to one line
abbrev pub port_size : ℕ
port_size = 47

-- the framebuffer's height, in rows
abbrev pub height_at : ℕ
height_at = port_size

-- the edition of the upload protocol
abbrev pub edition_at : ℕ
edition_at = height_at + 1

-- what follows belongs to the display
abbrev pub panel_at : ℕ
panel_at = edition_at + 1

abbrev pub panel_size : ℕ
panel_size = 160

-- ---- where the parts of the panel stand behind its front, and in the record

-- sixteen bars: on, kind, x1, y1, x2, y2, value
abbrev pub panel_bars : ℕ
panel_bars = 0

abbrev pub bars_at : ℕ
bars_at = panel_at + panel_bars

abbrev pub bar_size : ℕ
bar_size = 7

-- eight strips: on, x1, y1, x2, y2
abbrev pub panel_strips : ℕ
panel_strips = 112

abbrev pub strips_at : ℕ
strips_at = panel_at + panel_strips

abbrev pub strip_size : ℕ
strip_size = 5

-- serial: on, a, b
abbrev pub panel_serial : ℕ
panel_serial = 152

abbrev pub serial_at : ℕ
serial_at = panel_at + panel_serial

-- contrast, backlight on, minutes
abbrev pub panel_contrast : ℕ
panel_contrast = 155

abbrev pub contrast_at : ℕ
contrast_at = panel_at + panel_contrast

abbrev pub panel_backlight : ℕ
panel_backlight = 156

abbrev pub backlight_at : ℕ
backlight_at = panel_at + panel_backlight

abbrev pub panel_minutes : ℕ
panel_minutes = 157

abbrev pub minutes_at : ℕ
minutes_at = panel_at + panel_minutes

-- the used room (2)
abbrev pub panel_used : ℕ
panel_used = 158

abbrev pub used_at : ℕ
used_at = panel_at + panel_used

abbrev pub record_size : ℕ
record_size = panel_at + panel_size
