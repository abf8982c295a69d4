-- What each input means for bars: its footprint, a bar set up, or a bar written. A refusal means nothing, and time does not.
-- Assumes nothing.
use Rattle.std.specs.Prelude.{Option, Some, None, List, [], cond, ℕ, ◌+◌, ◌%◌, eqb, ltb, take, drop}
use Rattle.pixels.specs.Regions.{point, box, rectangle, everywhere}
use Rattle.line.specs.Line.{line}
use Rattle.rectangle.specs.Frame.{frame}
use Rattle.directory.specs.declared.Location.{Location}
use Rattle.directory.specs.Directory.{find_of}
use Rattle.fonts.specs.Bitmaps.{bitmap_width, bitmap_height}
use Rattle.opened_font.specs.Glyphs.{glyph_of}
use Rattle.bar_ledger.specs.Ledger.{View, Event, quiet, set_up, wrote, painted}
use Rattle.state.specs.declared.Command.{Command}
use Rattle.state.specs.declared.Command.TheVariants.{Unknown, Clear, Home, SetPoint, SetPlace, WrapOn, WrapOff, ScrollOn, ScrollOff, ChooseFont, SetMetrics, SetColour, DrawPixel, DrawLine, ContinueLine, DrawFrame, FillRectangle, SetUpBar, WriteBar, SetUpStrip, ShiftStrip, ShowBitmap, DrawInline, UploadFont, UploadBitmap, DeleteFile, Purge, FlowOn, FlowOff, SetContrast, BacklightOn, BacklightOff, SetSerial}
use Rattle.state.specs.declared.Phase.{Phase}
use Rattle.state.specs.declared.Phase.TheVariants.{Idle, Prefix, Gathering, Inline, Upload}
use Rattle.state.specs.State.{bar_of, bar_at, strip_at}
use Rattle.state.specs.Commands.{command_of, arguments_of}
use Rattle.rules.specs.World.{World, height, edition, port, panel, Outcome, done, refused, arg}
use Rattle.rules.specs.Numbers.{number_bytes, number_at}
use Rattle.rules.specs.Fonts.{Opened, opened, shut, open_font}
use Rattle.rules.specs.Text.{Place, place, nowhere, wrapped, fitted, Drawn, drawn, ignored, drawn_by}
use Rattle.rules.specs.Step.{gathered, Input, byte, time, outcome}

-- the framebuffer and the bars
abbrev pub view : World → View
view w = record { framebuffer = w.framebuffer; bar = λ i. (bar_at (panel w) i).bar }

-- ---- a character: its box, or the whole framebuffer if it scrolls; nothing where it is ignored

abbrev pub place_event : ℕ → ℕ → Place → Event
place_event wide tall nowhere = quiet
place_event wide tall (place x y up) = painted (cond (eqb up 0) (box x (x + wide) y (y + tall)) everywhere)

abbrev pub drawn_event : World → Drawn → Event
drawn_event w ignored = quiet
drawn_event w (drawn ink wide tall) = place_event wide tall (fitted (height w) wide tall (wrapped (port w).text wide tall))

abbrev pub font_event : World → ℕ → Opened → Event
font_event w c (shut r) = quiet
font_event w c (opened f) = drawn_event w (drawn_by f c (glyph_of f c))

unfoldable pub character_event : World → ℕ → Event
character_event w c = font_event w c (open_font (height w) w.store (port w).text.font)

-- ---- commands

abbrev pub bitmap_event : List ℕ → Option Location → ℕ → ℕ → Event
bitmap_event s None x y = quiet
bitmap_event s (Some f) x y =
    painted (box x (x + bitmap_width (take f.size (drop f.start s))) y (y + bitmap_height (take f.size (drop f.start s))))

-- clear: everything. Pixel, line, frame: their pixels. Solid, strip: the rectangle. Saved bitmap: its box. Data in line: its rectangle, at the last corner too
unfoldable pub meaning : Command → List ℕ → World → Event
meaning Unknown a w = quiet
meaning Clear a w = painted everywhere
meaning Home a w = quiet
meaning SetPoint a w = quiet
meaning SetPlace a w = quiet
meaning WrapOn a w = quiet
meaning WrapOff a w = quiet
meaning ScrollOn a w = quiet
meaning ScrollOff a w = quiet
meaning ChooseFont a w = quiet
meaning SetMetrics a w = quiet
meaning SetColour a w = quiet
meaning DrawPixel a w = painted (point (arg a 0) (arg a 1))
meaning DrawLine a w = painted (line (arg a 0) (arg a 1) (arg a 2) (arg a 3))
meaning ContinueLine a w = painted (line (port w).drawing.x (port w).drawing.y (arg a 0) (arg a 1))
meaning DrawFrame a w = painted (frame (arg a 1) (arg a 2) (arg a 3) (arg a 4))
meaning FillRectangle a w = painted (rectangle (arg a 1) (arg a 2) (arg a 3) (arg a 4))
meaning SetUpBar a w = set_up (arg a 0) (bar_of (arg a 1) (arg a 2) (arg a 3) (arg a 4) (arg a 5) 0)
meaning WriteBar a w = wrote (arg a 0) (arg a 1)
meaning SetUpStrip a w = quiet
meaning ShiftStrip a w =
    painted (rectangle (strip_at (panel w) (arg a 0 % 128)).x1 (strip_at (panel w) (arg a 0 % 128)).y1 (strip_at (panel w) (arg a 0 % 128)).x2 (strip_at (panel w) (arg a 0 % 128)).y2)
meaning ShowBitmap a w =
    bitmap_event w.store (find_of w.store 2 (number_at (edition w) a 0)) (arg a (number_bytes (edition w))) (arg a (number_bytes (edition w) + 1))
meaning DrawInline a w = painted (rectangle (arg a 0) (arg a 1) (arg a 2) (arg a 3))
meaning UploadFont a w = quiet
meaning UploadBitmap a w = quiet
meaning DeleteFile a w = quiet
meaning Purge a w = quiet
meaning FlowOn a w = quiet
meaning FlowOff a w = quiet
meaning SetContrast a w = quiet
meaning BacklightOn a w = quiet
meaning BacklightOff a w = quiet
meaning SetSerial a w = quiet

-- ---- bytes

unfoldable pub meant : Phase → World → ℕ → Event
meant Idle w b = cond (eqb b 254) quiet (character_event w b)
meant Prefix w b = cond (eqb (arguments_of (edition w) (command_of b)) 0) (meaning (command_of b) [] w) quiet
meant (Gathering code got) w b = cond (ltb (got + 1) (arguments_of (edition w) (command_of code))) quiet (meaning (command_of code) (gathered w got b) w)
meant (Inline x1 y1 x2 y2 came) w b = painted (rectangle x1 y1 x2 y2)
meant (Upload sort number size stored waiting held waited) w b = quiet

abbrev pub unless_refused : Outcome → Event → Event
unless_refused (done v r) e = e
unless_refused (refused n r) e = quiet

unfoldable pub event : World → Input → Event
event w (byte b) = unless_refused (outcome w (byte b)) (meant (port w).line.phase w b)
event w (time ms) = quiet
