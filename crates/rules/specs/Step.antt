-- One input, a byte or time: what it comes to in each phase, the next world, and the bytes sent.
-- Assumes nothing.
use Rattle.std.specs.Prelude.{None, List, [], Bool, true, false, cond, not, ◌&&◌, ℕ, ◌+◌, ◌%◌, eqb, ltb, set}
use Rattle.refusals.specs.Refusals.{unknown_command, number_out_of_range}
use Rattle.directory.specs.Directory.{entries, has_file, found_number}
use Rattle.state.specs.declared.Command.{Command}
use Rattle.state.specs.declared.Command.TheVariants.{Unknown, Clear, Home, SetPoint, SetPlace, WrapOn, WrapOff, ScrollOn, ScrollOff, ChooseFont, SetMetrics, SetColour, DrawPixel, DrawLine, ContinueLine, DrawFrame, FillRectangle, SetUpBar, WriteBar, SetUpStrip, ShiftStrip, ShowBitmap, DrawInline, UploadFont, UploadBitmap, DeleteFile, Purge, FlowOn, FlowOff, SetContrast, BacklightOn, BacklightOff, SetSerial}
use Rattle.state.specs.declared.Phase.{Phase}
use Rattle.state.specs.declared.Phase.TheVariants.{Idle, Prefix, Gathering, Inline, Upload}
use Rattle.state.specs.declared.Refusals.{Refusals}
use Rattle.state.specs.State.{with_phase, with_refusals, idle}
use Rattle.state.specs.Commands.{command_of, arguments_of}
use Rattle.rules.specs.World.{World, edition, port, with_port, put_text, Outcome, done, quietly, refused, refuse_if, arg}
use Rattle.rules.specs.Numbers.{too_high, number_bytes, number_at, size_in}
use Rattle.rules.specs.Text.{at_point, home, with_wrap, with_scroll, with_metrics, choose_font, set_place, character}
use Rattle.rules.specs.Drawing.{clear, set_colour, draw_pixel, draw_line, draw_frame, fill_rectangle}
use Rattle.rules.specs.Bars.{set_up_bar, write_bar, set_up_strip, shift_strip}
use Rattle.rules.specs.Pictures.{in_phase, show_bitmap, begin_inline, inline_data}
use Rattle.rules.specs.Files.{begin_upload, upload_data, upload_waits, delete_file, purge}
use Rattle.rules.specs.Settings.{flow_on, flow_off, set_contrast, backlight_on, backlight_off, set_serial}

-- EVERY COMMAND, with its fixed arguments
unfoldable pub obey : Command → List ℕ → World → Outcome
obey Unknown a w = refused unknown_command []
obey Clear a w = clear w
obey Home a w = quietly (put_text w (home (port w).text))
obey SetPoint a w = quietly (put_text w (at_point (port w).text (arg a 0) (arg a 1)))
obey SetPlace a w = set_place w (arg a 0) (arg a 1)
obey WrapOn a w = quietly (put_text w (with_wrap (port w).text true))
obey WrapOff a w = quietly (put_text w (with_wrap (port w).text false))
obey ScrollOn a w = quietly (put_text w (with_scroll (port w).text true))
obey ScrollOff a w = quietly (put_text w (with_scroll (port w).text false))
obey ChooseFont a w = choose_font w (number_at (edition w) a 0)
obey SetMetrics a w = quietly (put_text w (with_metrics (port w).text a))
obey SetColour a w = set_colour w (arg a 0)
obey DrawPixel a w = draw_pixel w (arg a 0) (arg a 1)
obey DrawLine a w = draw_line w (arg a 0) (arg a 1) (arg a 2) (arg a 3)
obey ContinueLine a w = draw_line w (port w).drawing.x (port w).drawing.y (arg a 0) (arg a 1)
obey DrawFrame a w = draw_frame w (arg a 0) (arg a 1) (arg a 2) (arg a 3) (arg a 4)
obey FillRectangle a w = fill_rectangle w (arg a 0) (arg a 1) (arg a 2) (arg a 3) (arg a 4)
obey SetUpBar a w = set_up_bar w (arg a 0) (arg a 1) (arg a 2) (arg a 3) (arg a 4) (arg a 5)
obey WriteBar a w = write_bar w (arg a 0) (arg a 1)
obey SetUpStrip a w = set_up_strip w (arg a 0) (arg a 1) (arg a 2) (arg a 3) (arg a 4)
obey ShiftStrip a w = shift_strip w (arg a 0)
obey ShowBitmap a w = show_bitmap w (number_at (edition w) a 0) (arg a (number_bytes (edition w))) (arg a (number_bytes (edition w) + 1))
obey DrawInline a w = begin_inline w (arg a 0) (arg a 1) (arg a 2) (arg a 3)
obey UploadFont a w = begin_upload w 1 (number_at (edition w) a 0) (size_in (edition w) a)
obey UploadBitmap a w = begin_upload w 2 (number_at (edition w) a 0) (size_in (edition w) a)
obey DeleteFile a w = delete_file w (arg a 0) (number_at (edition w) a 1)
obey Purge a w = purge w (arg a 0) (arg a 1)
obey FlowOn a w = flow_on w (arg a 0) (arg a 1)
obey FlowOff a w = flow_off w
obey SetContrast a w = set_contrast w (arg a 0)
obey BacklightOn a w = backlight_on w (arg a 0)
obey BacklightOff a w = backlight_off w
obey SetSerial a w = set_serial w (arg a 0) (arg a 1)

abbrev pub outside : World → World
outside w = with_port w (idle (port w))

-- a code: unknown ones are refused at once, one without arguments is obeyed, and others gather
unfoldable pub code : World → ℕ → Outcome
code w b = cond (eqb (arguments_of (edition w) (command_of b)) 0) (obey (command_of b) [] (outside w)) (quietly (in_phase w (Gathering b 0)))

-- a saved bitmap's number has come: at its last byte one that is too high, or that the directory does not have, ends its command
abbrev pub is_bitmap_due : World → ℕ → ℕ → Bool
is_bitmap_due w code got = eqb code 98 && eqb (got + 1) (number_bytes (edition w))

abbrev pub gathered : World → ℕ → ℕ → List ℕ
gathered w got b = set (port w).line.args got b

abbrev pub high_bitmap : World → ℕ → ℕ → ℕ → Bool
high_bitmap w code got b = is_bitmap_due w code got && too_high (number_at (edition w) (gathered w got b) 0)

abbrev pub no_bitmap : World → ℕ → ℕ → ℕ → Bool
no_bitmap w code got b = is_bitmap_due w code got && not (has_file (entries w.store) 2 (number_at (edition w) (gathered w got b) 0))

-- an argument, the last one or not
unfoldable pub argument : World → ℕ → ℕ → ℕ → Outcome
argument w code got b =
    refuse_if (high_bitmap w code got b) number_out_of_range
    (refuse_if (no_bitmap w code got b) (found_number None)
    (cond (ltb (got + 1) (arguments_of (edition w) (command_of code))) (quietly (with_port w (with_phase (port w) (Gathering code (got + 1)) (gathered w got b))))
    (obey (command_of code) (gathered w got b) (outside w))))

-- 254 begins a command; any other byte is a character
unfoldable pub alone : World → ℕ → Outcome
alone w b = cond (eqb b 254) (quietly (in_phase w Prefix)) (character w b)

unfoldable pub by_phase : Phase → World → ℕ → Outcome
by_phase Idle w b = alone w b
by_phase Prefix w b = code w b
by_phase (Gathering code got) w b = argument w code got b
by_phase (Inline x1 y1 x2 y2 came) w b = inline_data w x1 y1 x2 y2 came b
by_phase (Upload sort number size stored waiting held waited) w b = upload_data w sort number size stored waiting held b

-- only an upload under way minds the time
unfoldable pub waits : Phase → World → ℕ → Outcome
waits Idle w ms = quietly w
waits Prefix w ms = quietly w
waits (Gathering code got) w ms = quietly w
waits (Inline x1 y1 x2 y2 came) w ms = quietly w
waits (Upload sort number size stored waiting held waited) w ms = upload_waits w sort number size stored waiting held waited ms

-- WHAT COMES IN: a byte of the stream, or milliseconds that have passed
pub data Input : Type 0 where
  byte : ℕ → Input
  time : ℕ → Input

abbrev pub outcome : World → Input → Outcome
outcome w (byte b) = by_phase (port w).line.phase w b
outcome w (time ms) = waits (port w).line.phase w ms

-- A REFUSAL ends what was under way, is counted, from 65535 on to 0, and is the last one; it alters nothing else
abbrev pub refusals : ℕ → ℕ → Refusals
refusals c l = record { count = c; last = l }

unfoldable pub refuse : World → ℕ → World
refuse w n = with_port w (with_refusals (idle (port w)) (refusals (((port w).refusals.count + 1) % 65536) n))

unfoldable pub after : World → Outcome → World
after w (done v r) = v
after w (refused n r) = refuse w n

abbrev pub sent : Outcome → List ℕ
sent (done v r) = r
sent (refused n r) = r

-- THE NEXT WORLD, AND THE BYTES SENT
unfoldable pub step : World → Input → World
step w i = after w (outcome w i)

unfoldable pub replies : World → Input → List ℕ
replies w i = sent (outcome w i)
