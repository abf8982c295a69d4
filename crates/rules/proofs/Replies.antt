-- NO INPUT SENDS MORE THAN TWO REPLY BYTES, and so no piece more than its room.
-- Assumes nothing.
use Rattle.pixels.specs.Framebuffer.{width}
use mathlib.Core.Path.{◌≡◌, subst}
use mathlib.Core.Bool.{Bool, true, false, not, ◌&&◌, ◌||◌}
use mathlib.Core.List.{List, [], ◌∷◌}
use Prim.Native.Nat.{ℕ, suc, ◌+◌, ◌-◌, ◌%◌, ◌≤◌}
use native.Mathlib.Omega.{arith}
use lib.Dec.{eqb, leb, ltb}
use lib.ListN.{length, take, drop, length-append}
use borrow.Author.Tests.{ltb-false}
use Rattle.pixels.proofs.Tests.{by_test}
use Rattle.std.specs.Prelude.{Option, Some, None}
use Rattle.directory.specs.declared.Location.{Location}
use Rattle.directory.specs.Directory.{find_of, entries, bytes_in, has_file}
use Rattle.files.specs.Files.{unused_of}
use Rattle.bitmap.specs.Bitmaps.{packed_box}
use Rattle.fonts.specs.Bitmaps.{is_bitmap, bitmap_width, bitmap_height}
use Rattle.opened_font.specs.Glyphs.{glyph_of}
use Rattle.state.specs.declared.Command.{Command}
use Rattle.state.specs.declared.Command.TheVariants.{Unknown, Clear, Home, SetPoint, SetPlace, WrapOn, WrapOff, ScrollOn, ScrollOff, ChooseFont, SetMetrics, SetColour, DrawPixel, DrawLine, ContinueLine, DrawFrame, FillRectangle, SetUpBar, WriteBar, SetUpStrip, ShiftStrip, ShowBitmap, DrawInline, UploadFont, UploadBitmap, DeleteFile, Purge, FlowOn, FlowOff, SetContrast, BacklightOn, BacklightOff, SetSerial}
use Rattle.state.specs.declared.Phase.{Phase}
use Rattle.state.specs.declared.Phase.TheVariants.{Idle, Prefix, Gathering, Inline, Upload}
use Rattle.state.specs.Editions.{patience}
use Rattle.state.specs.State.{bar_at, strip_at}
use Rattle.state.specs.Commands.{command_of, arguments_of}
use Rattle.rules.specs.World.{World, height, edition, port, panel, used, with_framebuffer, put_text, Outcome, done, refused, quietly, refuse_if, arg}
use Rattle.rules.specs.Numbers.{too_high, number_bytes, number_at, size_in}
use Rattle.rules.specs.Fonts.{Opened, opened, shut, open_font}
use Rattle.rules.specs.Text.{Place, place, nowhere, at_point, place_x, place_y, wrapped, fitted, font_chosen, choose_font, place_in, set_place, Ink, Drawn, drawn, ignored, drawn_by, drawn_at, drawn_on, character_in, character}
use Rattle.rules.specs.Drawing.{ordered, clear, set_colour, draw_pixel, draw_line, draw_frame, fill_rectangle}
use Rattle.rules.specs.Bars.{in_bounds, apart, set_up_bar, write_bar, set_up_strip, shift_strip}
use Rattle.rules.specs.Pictures.{in_phase, bitmap_in, bitmap_at, show_bitmap, begin_inline, inline_data}
use Rattle.rules.specs.Files.{in_use, kind_of, lacks_space, confirmed, tell_if, begin_upload, upload_data, upload_waits, delete_file, purge}
use Rattle.rules.specs.Settings.{flow_on, flow_off, set_contrast, backlight_on, backlight_off, set_serial}
use Rattle.rules.specs.Step.{obey, outside, code, gathered, high_bitmap, no_bitmap, argument, alone, by_phase, waits, Input, byte, time, sent, step, replies}
use Rattle.rules.specs.Calls.{said, taken}

pub record Brief (o : Outcome) : Type 0 where
  pub most : length (sent o) ≤ 2

brief : (o : Outcome) → length (sent o) ≤ 2 → Brief o
brief o h = record { most = h }

silent : (w : World) → Brief (quietly w)
silent w = brief (quietly w) (omega arith)

one : (w : World) (a : ℕ) → Brief (done w (a ∷ []))
one w a = brief (done w (a ∷ [])) (omega arith)

two : (w : World) (a b : ℕ) → Brief (done w (a ∷ b ∷ []))
two w a b = brief (done w (a ∷ b ∷ [])) (omega arith)

mute : (n : ℕ) → Brief (refused n [])
mute n = brief (refused n []) (omega arith)

brief_if : (t : Bool) (n : ℕ) (o : Outcome) → Brief o → Brief (refuse_if t n o)
brief_if true n o h = mute n
brief_if false n o h = h

brief_tell : (t : Bool) (n : ℕ) (o : Outcome) → Brief o → Brief (tell_if t n o)
brief_tell true n o h = brief (refused n (8 ∷ [])) (omega arith)
brief_tell false n o h = h

-- ---- text

at_brief : (w : World) (i : Ink) (v t : ℕ) (p : Place) → Brief (drawn_at w i v t p)
unfolding drawn_at
at_brief w i v t nowhere = mute _
at_brief w i v t (place x y up) = silent _

on_brief : (w : World) (d : Drawn) → Brief (drawn_on w d)
unfolding drawn_on
on_brief w ignored = silent w
on_brief w (drawn i v t) = at_brief w i v t (fitted (height w) v t (wrapped (port w).text v t))

in_brief : (w : World) (c : ℕ) (o : Opened) → Brief (character_in w c o)
unfolding character_in
in_brief w c (shut r) = mute _
in_brief w c (opened f) = on_brief w (drawn_by f c (glyph_of f c))

character_brief : (w : World) (c : ℕ) → Brief (character w c)
unfolding character
character_brief w c = in_brief w c (open_font (height w) w.store (port w).text.font)

chosen_brief : (w : World) (n : ℕ) (o : Opened) → Brief (font_chosen w n o)
unfolding font_chosen
chosen_brief w n (opened f) = silent _
chosen_brief w n (shut r) = mute _

place_brief : (w : World) (x y : ℕ) (o : Opened) → Brief (place_in w x y o)
unfolding place_in
place_brief w x y (shut r) = mute _
place_brief w x y (opened f) =
    let t = (port w).text in
    brief_if (eqb x 0 || eqb y 0 || leb width (place_x t f x) || leb (height w) (place_y t f y)) 17 _ (silent (put_text w (at_point t (place_x t f x) (place_y t f y))))

-- ---- commands

bitmap_brief : (w : World) (f : Option Location) (x y : ℕ) → Brief (bitmap_at w f x y)
unfolding bitmap_at bitmap_in
bitmap_brief w None x y = mute _
bitmap_brief w (Some t) x y =
    let f = take t.size (drop t.start w.store) in
    brief_if (not (is_bitmap f)) 23 _ (silent (with_framebuffer w (packed_box x y (bitmap_width f) (bitmap_height f) (drop 2 f) w.framebuffer)))

upload_brief : (w : World) (k n z : ℕ) → Brief (begin_upload w k n z)
unfolding begin_upload
upload_brief w k n z =
    brief_tell (too_high n) 19 _ (brief_tell (in_use w.store k n) 25 _ (brief_tell (lacks_space (bytes_in (entries w.store)) (unused_of w.store (used w)) (kind_of (edition w) k) z) 24 _ (one (in_phase w (Upload k n z 0 false 0 0)) 1)))

serial_brief : (w : World) (a b : ℕ) → Brief (set_serial w a b)
unfolding set_serial
serial_brief w a b = by_test Brief (panel w).serial.on _ _ (λ _. two _ _ _) (λ _. two _ _ _)

data_brief : (w : World) (k n z s : ℕ) (v : Bool) (c b : ℕ) → Brief (upload_data w k n z s v c b)
unfolding upload_data
data_brief w k n z s false c b = one _ _
data_brief w k n z s true c b = brief_if (not (eqb b 1)) 26 _ (silent (confirmed w k n z s c))

obey_brief : (c : Command) (a : List ℕ) (w : World) → Brief (obey c a w)
unfolding obey clear set_place choose_font set_colour draw_pixel draw_line draw_frame fill_rectangle set_up_bar write_bar set_up_strip shift_strip show_bitmap begin_inline delete_file purge flow_on flow_off set_contrast backlight_on backlight_off
obey_brief Unknown a w = mute _
obey_brief Clear a w = silent _
obey_brief Home a w = silent _
obey_brief SetPoint a w = silent _
obey_brief SetPlace a w = place_brief w (arg a 0) (arg a 1) (open_font (height w) w.store (port w).text.font)
obey_brief WrapOn a w = silent _
obey_brief WrapOff a w = silent _
obey_brief ScrollOn a w = silent _
obey_brief ScrollOff a w = silent _
obey_brief ChooseFont a w = let n = number_at (edition w) a 0 in brief_if (too_high n) 19 _ (chosen_brief w n (open_font (height w) w.store n))
obey_brief SetMetrics a w = silent _
obey_brief SetColour a w = silent _
obey_brief DrawPixel a w = silent _
obey_brief DrawLine a w = silent _
obey_brief ContinueLine a w = silent _
obey_brief DrawFrame a w = brief_if (not (ordered (arg a 1) (arg a 2) (arg a 3) (arg a 4))) 18 _ (silent _)
obey_brief FillRectangle a w = brief_if (not (ordered (arg a 1) (arg a 2) (arg a 3) (arg a 4))) 18 _ (silent _)
obey_brief SetUpBar a w =
    brief_if (leb 16 (arg a 0)) 19 _ (brief_if (leb 4 (arg a 1)) 20 _ (brief_if (not (in_bounds w (arg a 2) (arg a 3) (arg a 4) (arg a 5))) 17 _ (brief_if (not (apart (arg a 2) (arg a 3) (arg a 4) (arg a 5))) 18 _ (silent _))))
obey_brief WriteBar a w = brief_if (leb 16 (arg a 0)) 19 _ (brief_if (not (bar_at (panel w) (arg a 0)).on) 21 _ (silent _))
obey_brief SetUpStrip a w =
    brief_if (leb 8 (arg a 0)) 19 _ (brief_if (not (in_bounds w (arg a 1) (arg a 2) (arg a 3) (arg a 4))) 17 _ (brief_if (not (apart (arg a 1) (arg a 2) (arg a 3) (arg a 4))) 18 _ (silent _)))
obey_brief ShiftStrip a w = brief_if (leb 8 (arg a 0 % 128)) 19 _ (brief_if (not (strip_at (panel w) (arg a 0 % 128)).on) 21 _ (silent _))
obey_brief ShowBitmap a w =
    let n = number_at (edition w) a 0 in
    brief_if (too_high n) 19 _ (bitmap_brief w (find_of w.store 2 n) (arg a (number_bytes (edition w))) (arg a (number_bytes (edition w) + 1)))
obey_brief DrawInline a w = brief_if (not (ordered (arg a 0) (arg a 1) (arg a 2) (arg a 3))) 18 _ (silent _)
obey_brief UploadFont a w = upload_brief w 1 (number_at (edition w) a 0) (size_in (edition w) a)
obey_brief UploadBitmap a w = upload_brief w 2 (number_at (edition w) a 0) (size_in (edition w) a)
obey_brief DeleteFile a w =
    let n = number_at (edition w) a 1 in
    brief_if (leb 2 (arg a 0)) 20 _ (brief_if (too_high n) 19 _ (brief_if (not (has_file (entries w.store) (arg a 0 + 1) n)) 22 _ (silent _)))
obey_brief Purge a w = brief_if (not (eqb (arg a 0) 89 && eqb (arg a 1) 33)) 20 _ (silent _)
obey_brief FlowOn a w = brief_if (leb 80 (arg a 0 + arg a 1)) 27 _ (silent _)
obey_brief FlowOff a w = silent _
obey_brief SetContrast a w = silent _
obey_brief BacklightOn a w = silent _
obey_brief BacklightOff a w = silent _
obey_brief SetSerial a w = serial_brief w (arg a 0) (arg a 1)

-- ---- bytes

phase_brief : (p : Phase) (w : World) (b : ℕ) → Brief (by_phase p w b)
unfolding by_phase alone code argument inline_data
phase_brief Idle w b = by_test Brief (eqb b 254) _ _ (λ _. silent _) (λ _. character_brief w b)
phase_brief Prefix w b = by_test Brief (eqb (arguments_of (edition w) (command_of b)) 0) _ _ (λ _. obey_brief (command_of b) [] (outside w)) (λ _. silent _)
phase_brief (Gathering c g) w b =
    brief_if (high_bitmap w c g b) 19 _ (brief_if (no_bitmap w c g b) 22 _
    (by_test Brief (ltb (g + 1) (arguments_of (edition w) (command_of c))) _ _ (λ _. silent _) (λ _. obey_brief (command_of c) (gathered w g b) (outside w))))
phase_brief (Inline x1 y1 x2 y2 came) w b = silent _
phase_brief (Upload sort number size stored waiting held waited) w b = data_brief w sort number size stored waiting held b

time_brief : (p : Phase) (w : World) (ms : ℕ) → Brief (waits p w ms)
unfolding waits upload_waits
time_brief Idle w ms = silent w
time_brief Prefix w ms = silent w
time_brief (Gathering c g) w ms = silent w
time_brief (Inline x1 y1 x2 y2 came) w ms = silent w
time_brief (Upload sort number size stored waiting held waited) w ms =
    by_test Brief (leb patience (waited + ms)) _ _ (λ _. brief (refused 26 (254 ∷ 212 ∷ [])) (omega arith)) (λ _. silent _)

-- THE THEOREM, for an input and for a piece
pub replies_most : (w : World) (i : Input) → length (replies w i) ≤ 2
unfolding replies
replies_most w (byte b) = (phase_brief (port w).line.phase w b).most
replies_most w (time ms) = (time_brief (port w).line.phase w ms).most

pub succ : (n : ℕ) → suc n ≡ 1 + n
succ n = omega arith

pub said_fits : (w : World) (room : ℕ) (l : List Input) → length (said w (take (taken w room l) l)) ≤ room
unfolding taken said
said_fits w room [] = omega arith
said_fits w room (i ∷ l) =
    by_test (λ (n : ℕ). length (said w (take n (i ∷ l))) ≤ room) (ltb room 2) _ _ (λ _. omega arith)
    (λ e.
    let r = room - length (replies w i) in
    let n = taken (step w i) r l in
    let m = said (step w i) (take n l) in
    subst (λ (k : ℕ). length (said w (take k (i ∷ l))) ≤ room) (succ n)
    (rw (length-append (replies w i) m) (omega (arith, ltb-false room 2 e, replies_most w i, said_fits (step w i) r l))))
