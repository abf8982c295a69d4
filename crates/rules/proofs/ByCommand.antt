-- Each command, each character and each data byte obeys its event.
-- Assumes nothing.
use mathlib.Core.Path.{◌≡◌, refl}
use mathlib.Core.Bool.{Bool, true, false, cond, not, ◌&&◌, ◌||◌}
use mathlib.Core.List.{List}
use Prim.Native.Nat.{ℕ, ◌+◌, ◌%◌}
use native.Mathlib.Omega.{arith}
use lib.Dec.{eqb, leb, ltb}
use lib.ListN.{length, take, drop, length-set}
use borrow.Author.Tests.{leb-false}
use Rattle.pixels.specs.Framebuffer.{Picture, plain, put, width}
use Rattle.pixels.specs.Regions.{point, box, rectangle, everywhere}
use Rattle.pixels.specs.Footprints.{SameOutside}
use Rattle.pixels.proofs.Tests.{by_test}
use Rattle.pixels.proofs.Footprint.{outside_then, outside_put, outside_none, outside_all}
use Rattle.bitmap.proofs.Footprint.{packed_footprint, inline_footprint}
use Rattle.scroll.specs.Scroll.{scrolled}
use Rattle.scroll.proofs.Footprint.{clear_footprint, scroll_footprint}
use Rattle.strip_chart.proofs.Footprint.{strip_footprint}
use Rattle.line.specs.Line.{line}
use Rattle.rectangle.specs.Frame.{frame}
use Rattle.bar_ledger.specs.Ledger.{quiet, set_up, wrote, painted}
use Rattle.std.specs.Prelude.{Option, Some, None}
use Rattle.directory.specs.declared.Location.{Location}
use Rattle.directory.specs.Directory.{find_of, entries, bytes_in, has_file}
use Rattle.files.specs.Files.{unused_of}
use Rattle.opened_font.specs.Glyphs.{glyph_of}
use Rattle.fonts.specs.Bitmaps.{is_bitmap, bitmap_width, bitmap_height}
use Rattle.state.specs.Editions.{patience}
use Rattle.state.specs.State.{bar_of, bar_at, strip_at, strip}
use Rattle.rules.specs.World.{World, height, edition, port, panel, used}
use Rattle.rules.specs.Numbers.{too_high}
use Rattle.rules.specs.Fonts.{Opened, opened, shut, open_font}
use Rattle.rules.specs.Text.{place_x, place_y, Place, place, nowhere, wrapped, fitted, Ink, inked, Drawn, drawn, ignored, drawn_by, drawn_at, drawn_on, character_in, character, font_chosen, choose_font, place_in, set_place}
use Rattle.rules.specs.Drawing.{ordered, clear, draw_pixel, draw_line, draw_frame, fill_rectangle}
use Rattle.rules.specs.Bars.{in_bounds, apart, set_up_bar, write_bar, set_up_strip, shift_strip}
use Rattle.rules.specs.Pictures.{bitmap_in, bitmap_at, show_bitmap, begin_inline, inline_data}
use Rattle.rules.specs.Files.{in_use, kind_of, lacks_space, begin_upload, confirmed, upload_data, upload_waits, unchosen, delete_file, purge}
use Rattle.rules.specs.Settings.{flow_on, set_serial}
use Rattle.rules.specs.Events.{place_event, drawn_event, font_event, character_event, bitmap_event}
use Rattle.rules.proofs.Obeying.{Fair, Obeying, passes, fair_painted, fair_quiet, fair_set_up, fair_wrote}

-- ---- drawing

pub clear_obeys : (w : World) → Obeying w (painted everywhere) (clear w)
unfolding clear
clear_obeys w = fair_painted w _ refl refl refl everywhere (clear_footprint w.framebuffer)

pub pixel_obeys : (w : World) (x y : ℕ) → Obeying w (painted (point x y)) (draw_pixel w x y)
unfolding draw_pixel
pixel_obeys w x y = fair_painted w _ refl refl refl (point x y) (outside_put (point x y) (plain (port w).drawing.colour.black) w.framebuffer)

pub line_obeys : (w : World) (x1 y1 x2 y2 : ℕ) → Obeying w (painted (line x1 y1 x2 y2)) (draw_line w x1 y1 x2 y2)
unfolding draw_line
line_obeys w x1 y1 x2 y2 = fair_painted w _ refl refl refl (line x1 y1 x2 y2) (outside_put (line x1 y1 x2 y2) (plain (port w).drawing.colour.black) w.framebuffer)

pub frame_obeys : (w : World) (c x1 y1 x2 y2 : ℕ) → Obeying w (painted (frame x1 y1 x2 y2)) (draw_frame w c x1 y1 x2 y2)
unfolding draw_frame
frame_obeys w c x1 y1 x2 y2 = passes w _ (not (ordered x1 y1 x2 y2)) 18 _ (λ _. fair_painted w _ refl refl refl (frame x1 y1 x2 y2) (outside_put (frame x1 y1 x2 y2) _ w.framebuffer))

pub solid_obeys : (w : World) (c x1 y1 x2 y2 : ℕ) → Obeying w (painted (rectangle x1 y1 x2 y2)) (fill_rectangle w c x1 y1 x2 y2)
unfolding fill_rectangle
solid_obeys w c x1 y1 x2 y2 = passes w _ (not (ordered x1 y1 x2 y2)) 18 _ (λ _. fair_painted w _ refl refl refl (rectangle x1 y1 x2 y2) (outside_put (rectangle x1 y1 x2 y2) _ w.framebuffer))

-- ---- bars and strips

pub set_up_obeys : (w : World) (n k x1 y1 x2 y2 : ℕ) → length (panel w).bars ≡ 16 → Obeying w (set_up n (bar_of k x1 y1 x2 y2 0)) (set_up_bar w n k x1 y1 x2 y2)
unfolding set_up_bar
set_up_obeys w n k x1 y1 x2 y2 s =
    passes w _ (leb 16 n) 19 _ (λ h. passes w _ (leb 4 k) 20 _ (λ _. passes w _ (not (in_bounds w x1 y1 x2 y2)) 17 _ (λ _. passes w _ (not (apart x1 y1 x2 y2)) 18 _ (λ _.
    fair_set_up w n (omega (arith, leb-false 16 n h)) (bar_of k x1 y1 x2 y2 0)))))

pub write_obeys : (w : World) (n v : ℕ) → length (panel w).bars ≡ 16 → Obeying w (wrote n v) (write_bar w n v)
unfolding write_bar
write_obeys w n v s =
    passes w _ (leb 16 n) 19 _ (λ h. passes w _ (not (bar_at (panel w) n).on) 21 _ (λ _. fair_wrote w n (omega (arith, leb-false 16 n h)) v))

pub strip_obeys : (w : World) (n x1 y1 x2 y2 : ℕ) → Obeying w quiet (set_up_strip w n x1 y1 x2 y2)
unfolding set_up_strip
strip_obeys w n x1 y1 x2 y2 =
    passes w _ (leb 8 n) 19 _ (λ _. passes w _ (not (in_bounds w x1 y1 x2 y2)) 17 _ (λ _. passes w _ (not (apart x1 y1 x2 y2)) 18 _ (λ _.
    fair_quiet w _ refl (length-set (panel w).strips n (strip true x1 y1 x2 y2)) refl refl)))

pub shift_obeys : (w : World) (b : ℕ) → Obeying w (painted (rectangle (strip_at (panel w) (b % 128)).x1 (strip_at (panel w) (b % 128)).y1 (strip_at (panel w) (b % 128)).x2 (strip_at (panel w) (b % 128)).y2)) (shift_strip w b)
unfolding shift_strip
shift_obeys w b =
    passes w _ (leb 8 (b % 128)) 19 _ (λ _. passes w _ (not (strip_at (panel w) (b % 128)).on) 21 _ (λ _.
    fair_painted w _ refl refl refl _ (strip_footprint (leb 128 b) (strip_at (panel w) (b % 128)).x1 (strip_at (panel w) (b % 128)).y1 (strip_at (panel w) (b % 128)).x2 (strip_at (panel w) (b % 128)).y2 w.framebuffer)))

-- ---- bitmaps

bitmap_in_lem : (w : World) (f : List ℕ) (x y : ℕ) → Obeying w (painted (box x (x + bitmap_width f) y (y + bitmap_height f))) (bitmap_in w f x y)
unfolding bitmap_in
bitmap_in_lem w f x y =
    passes w _ (not (is_bitmap f)) 23 _ (λ _. fair_painted w _ refl refl refl _ (packed_footprint x y (bitmap_width f) (bitmap_height f) (drop 2 f) w.framebuffer))

bitmap_at_lem : (w : World) (t : Option Location) (x y : ℕ) → Obeying w (bitmap_event w.store t x y) (bitmap_at w t x y)
unfolding bitmap_at
bitmap_at_lem w None x y = tt
bitmap_at_lem w (Some f) x y = bitmap_in_lem w (take f.size (drop f.start w.store)) x y

pub bitmap_obeys : (w : World) (n x y : ℕ) → Obeying w (bitmap_event w.store (find_of w.store 2 n) x y) (show_bitmap w n x y)
unfolding show_bitmap
bitmap_obeys w n x y = passes w _ (too_high n) 19 _ (λ _. bitmap_at_lem w (find_of w.store 2 n) x y)

pub corners_obey : (w : World) (x1 y1 x2 y2 : ℕ) → Obeying w (painted (rectangle x1 y1 x2 y2)) (begin_inline w x1 y1 x2 y2)
unfolding begin_inline
corners_obey w x1 y1 x2 y2 = passes w _ (not (ordered x1 y1 x2 y2)) 18 _ (λ _. fair_painted w _ refl refl refl (rectangle x1 y1 x2 y2) (outside_none (rectangle x1 y1 x2 y2) w.framebuffer))

pub inline_obeys : (w : World) (x1 y1 x2 y2 d b : ℕ) → Obeying w (painted (rectangle x1 y1 x2 y2)) (inline_data w x1 y1 x2 y2 d b)
unfolding inline_data
inline_obeys w x1 y1 x2 y2 d b = fair_painted w _ refl refl refl (rectangle x1 y1 x2 y2) (inline_footprint x1 y1 x2 y2 d b w.framebuffer)

-- ---- text

choice : (w : World) (n : ℕ) (o : Opened) → Obeying w quiet (font_chosen w n o)
unfolding font_chosen
choice w n (opened f) = fair_quiet w _ refl refl refl refl
choice w n (shut r) = tt

pub choose_obeys : (w : World) (n : ℕ) → Obeying w quiet (choose_font w n)
unfolding choose_font
choose_obeys w n = passes w _ (too_high n) 19 _ (λ _. choice w n (open_font (height w) w.store n))

placing : (w : World) (c r : ℕ) (o : Opened) → Obeying w quiet (place_in w c r o)
unfolding place_in
placing w c r (shut n) = tt
placing w c r (opened f) =
    passes w _ (eqb c 0 || eqb r 0 || leb width (place_x (port w).text f c) || leb (height w) (place_y (port w).text f r)) 17 _ (λ _. fair_quiet w _ refl refl refl refl)

pub place_obeys : (w : World) (c r : ℕ) → Obeying w quiet (set_place w c r)
unfolding set_place
place_obeys w c r = placing w c r (open_font (height w) w.store (port w).text.font)

-- the box, or everything where the framebuffer moves up first
box_painted : (u : ℕ) (t : Bool) (g : List ℕ) (x y v f : ℕ) (p : Picture) → eqb u 0 ≡ t
    → SameOutside (cond t (box x (x + v) y (y + f)) everywhere) g (put (box x (x + v) y (y + f)) p (cond t g (scrolled u g)))
box_painted u true g x y v f p e = outside_put (box x (x + v) y (y + f)) p g
box_painted u false g x y v f p e =
    outside_then everywhere g (scrolled u g) _ (scroll_footprint u g) (outside_all (scrolled u g) _ (outside_put (box x (x + v) y (y + f)) p (scrolled u g)).long)

drawn_at_lem : (w : World) (i : Ink) (v t : ℕ) (p : Place) → Obeying w (place_event v t p) (drawn_at w i v t p)
unfolding drawn_at
drawn_at_lem w i v t nowhere = tt
drawn_at_lem w i v t (place x y up) =
    fair_painted w _ refl refl refl (cond (eqb up 0) (box x (x + v) y (y + t)) everywhere)
    (box_painted up (eqb up 0) w.framebuffer x y v t (inked i x y v) refl)

drawn_on_lem : (w : World) (d : Drawn) → Obeying w (drawn_event w d) (drawn_on w d)
unfolding drawn_on
drawn_on_lem w ignored = fair_quiet w w refl refl refl refl
drawn_on_lem w (drawn i v t) = drawn_at_lem w i v t (fitted (height w) v t (wrapped (port w).text v t))

in_font : (w : World) (c : ℕ) (o : Opened) → Obeying w (font_event w c o) (character_in w c o)
unfolding character_in
in_font w c (shut r) = tt
in_font w c (opened f) = drawn_on_lem w (drawn_by f c (glyph_of f c))

pub character_obeys : (w : World) (c : ℕ) → Obeying w (character_event w c) (character w c)
unfolding character character_event
character_obeys w c = in_font w c (open_font (height w) w.store (port w).text.font)

-- ---- files

pub upload_obeys : (w : World) (k n z : ℕ) → Obeying w quiet (begin_upload w k n z)
unfolding begin_upload
upload_obeys w k n z =
    by_test (Obeying w quiet) (too_high n) _ _ (λ _. tt) (λ _.
    by_test (Obeying w quiet) (in_use w.store k n) _ _ (λ _. tt) (λ _.
    by_test (Obeying w quiet) (lacks_space (bytes_in (entries w.store)) (unused_of w.store (used w)) (kind_of (edition w) k) z) _ _ (λ _. tt) (λ _. fair_quiet w _ refl refl refl refl)))

confirmed_fair : (w : World) (k n z s c : ℕ) → Fair w quiet (confirmed w k n z s c)
confirmed_fair w k n z s c =
    by_test (Fair w quiet) (ltb (s + 1) z) _ _ (λ _. fair_quiet w _ refl refl refl refl) (λ _. fair_quiet w _ refl refl refl refl)

pub data_obeys : (w : World) (k n z s : ℕ) (v : Bool) (c b : ℕ) → Obeying w quiet (upload_data w k n z s v c b)
unfolding upload_data
data_obeys w k n z s false c b = fair_quiet w _ refl refl refl refl
data_obeys w k n z s true c b = passes w _ (not (eqb b 1)) 26 _ (λ _. confirmed_fair w k n z s c)

pub waits_obeys : (w : World) (k n z s : ℕ) (v : Bool) (c t ms : ℕ) → Obeying w quiet (upload_waits w k n z s v c t ms)
unfolding upload_waits
waits_obeys w k n z s v c t ms = by_test (Obeying w quiet) (leb patience (t + ms)) _ _ (λ _. tt) (λ _. fair_quiet w _ refl refl refl refl)

unchosen_fair : (w v : World) (k n : ℕ) → v.framebuffer ≡ w.framebuffer → (panel v).bars ≡ (panel w).bars → (panel v).strips ≡ (panel w).strips → (port v).refusals ≡ (port w).refusals
    → Fair w quiet (unchosen v k n)
unchosen_fair w v k n s p q r =
    by_test (Fair w quiet) (eqb k 1 && eqb n (port v).text.font) _ _ (λ _. fair_quiet w _ p (rw q) r s) (λ _. fair_quiet w v p (rw q) r s)

pub delete_obeys : (w : World) (t n : ℕ) → Obeying w quiet (delete_file w t n)
unfolding delete_file
delete_obeys w t n =
    passes w _ (leb 2 t) 20 _ (λ _. passes w _ (too_high n) 19 _ (λ _. passes w _ (not (has_file (entries w.store) (t + 1) n)) 22 _ (λ _. unchosen_fair w _ (t + 1) n refl refl refl refl)))

pub purge_obeys : (w : World) (a b : ℕ) → Obeying w quiet (purge w a b)
unfolding purge
purge_obeys w a b = passes w _ (not (eqb a 89 && eqb b 33)) 20 _ (λ _. fair_quiet w _ refl refl refl refl)

-- ---- settings

pub flow_obeys : (w : World) (a b : ℕ) → Obeying w quiet (flow_on w a b)
unfolding flow_on
flow_obeys w a b = passes w _ (leb 80 (a + b)) 27 _ (λ _. fair_quiet w _ refl refl refl refl)

pub serial_obeys : (w : World) (a b : ℕ) → Obeying w quiet (set_serial w a b)
unfolding set_serial
serial_obeys w a b =
    by_test (Obeying w quiet) (panel w).serial.on _ _ (λ _. fair_quiet w w refl refl refl refl) (λ _. fair_quiet w _ refl refl refl refl)
