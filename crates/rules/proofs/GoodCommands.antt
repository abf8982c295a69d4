-- Each command on a good world leaves a good one, of the same height and with as much store: drawing, bars and strips, bitmaps, settings.
-- Assumes nothing.
use mathlib.Core.Path.{◌≡◌, refl}
use mathlib.Core.Bool.{true, false, not, ◌&&◌}
use mathlib.Core.List.{List}
use Prim.Native.Nat.{ℕ, ◌+◌, ◌%◌, ◌<◌, min}
use native.Mathlib.Omega.{arith}
use lib.Dec.{eqb, leb, ltb}
use lib.ListN.{take, drop}
use borrow.Author.Tests.{leb-false, ltb-true, le-leb, lt-ltb, not-false}
use Rattle.queue.specs.Record.{Bytes}
use Rattle.pixels.proofs.Painting.{bytes_repaint}
use Rattle.pixels.specs.Framebuffer.{width}
use Rattle.pixels.proofs.Tests.{by_test}
use Rattle.bar_graph.specs.declared.Bar.{Bar}
use Rattle.bar_graph.specs.Bars.{length_of, held_to, write_of, written_bar}
use Rattle.std.specs.Prelude.{Option, Some, None}
use Rattle.directory.specs.declared.Location.{Location}
use Rattle.directory.specs.Directory.{find_of}
use Rattle.fonts.specs.Bitmaps.{is_bitmap}
use Rattle.file_laws.proofs.Written.{and_both}
use Rattle.state.specs.declared.BarSlot.{BarSlot}
use Rattle.state.specs.State.{bar_of, bar_slot, no_bar, bar_at, strip, strip_at}
use Rattle.state.specs.Soundness.{sound_bar, sound_strip, sound_corners, sound_set_up}
use Rattle.state.specs.Canonical.{canonical_bar, canonical_strip, canonical_serial}
use Rattle.state.specs.Fits.{BarFits}
use Rattle.state.proofs.Every.{every_at}
use Rattle.state.specs.declared.Config.{Config}
use Rattle.rules.specs.World.{World, height, panel}
use Rattle.rules.specs.Numbers.{too_high}
use Rattle.rules.specs.Drawing.{ordered, clear, set_colour, draw_pixel, draw_line, draw_frame, fill_rectangle}
use Rattle.rules.specs.Bars.{in_bounds, apart, set_up_bar, write_bar, set_up_strip, shift_strip}
use Rattle.rules.specs.Pictures.{bitmap_in, bitmap_at, show_bitmap}
use Rattle.rules.specs.Settings.{flow_on, flow_off, set_contrast, backlight_on, backlight_off, set_serial}
use Rattle.rules.proofs.Good.{Parts, put_panel, put_framebuffer, put_text_lem, put_drawing_lem, put_flow, put_bars, put_strips, Leaves, passes}
use Rattle.rules.proofs.GoodLists.{bars_good, strips_good}
use Rattle.rules.proofs.GoodText.{home_good}

-- ---- bars and strips, from the tests of a set-up

record Inside (h x1 y1 x2 y2 : ℕ) : Type 0 where
  framebuffer : sound_corners h x1 y1 x2 y2 ≡ true
  low : h < 256
  x1_fits : x1 < 256
  y1_fits : y1 < 256
  x2_fits : x2 < 256
  y2_fits : y2 < 256

inside : {n : Config} {m : ℕ} {w : World} → Parts n m w → (x1 y1 x2 y2 : ℕ) → not (in_bounds w x1 y1 x2 y2) ≡ false → not (apart x1 y1 x2 y2) ≡ false
    → Inside (height w) x1 y1 x2 y2
inside {n} {m} {w} p x1 y1 x2 y2 h k =
    let a = and_both _ _ (not-false (in_bounds w x1 y1 x2 y2) h) in
    let b = and_both _ _ a.0 in
    let e = and_both (ltb x1 x2) (ltb y1 y2) (not-false (apart x1 y1 x2 y2) k) in
    let x = ltb-true x1 x2 e.0 in
    let y = ltb-true y1 y2 e.1 in
    let hx = ltb-true x2 width (and_both (ltb x1 width) (ltb x2 width) b.0).1 in
    let hy = ltb-true y2 (height w) a.1 in
    let l = p.config.fits.height in
    record {
      framebuffer = rw (e.0, e.1, lt-ltb x2 width hx, lt-ltb y2 (height w) hy);
      low = l;
      x1_fits = omega arith;
      y1_fits = omega arith;
      x2_fits = omega arith;
      y2_fits = omega arith;
    }

set_up_sound : (h k x1 y1 x2 y2 : ℕ) → sound_corners h x1 y1 x2 y2 ≡ true → k < 4 → sound_bar h (bar_slot true (bar_of k x1 y1 x2 y2 0)) ≡ true
unfolding sound_bar sound_set_up
set_up_sound h k x1 y1 x2 y2 g l = rw (g, le-leb 0 (length_of (bar_of k x1 y1 x2 y2 0)) (omega arith), lt-ltb k 4 l)

-- what is set up is canonical
set_up_canonical : (b : Bar) → canonical_bar (bar_slot true b) ≡ true
unfolding canonical_bar
set_up_canonical b = refl

none_sound : (h : ℕ) → sound_bar h no_bar ≡ true
unfolding sound_bar
none_sound h = refl

held_fits : (b : Bar) (v : ℕ) → leb (min v (length_of b)) (length_of b) ≡ true
held_fits b v = le-leb (min v (length_of b)) (length_of b) (omega arith)

-- a write keeps kind and corners, and holds the value to the length
written_sound : (h : ℕ) (s : BarSlot) (v : ℕ) → s.on ≡ true → sound_bar h s ≡ true → sound_bar h (bar_slot true (written_bar s.bar v)) ≡ true
unfolding sound_bar held_to length_of sound_set_up
written_sound h s v e q =
    let b = s.bar in
    let g = sound_corners h b.x1 b.y1 b.x2 b.y2 in
    let l = leb b.value (length_of b) in
    let a = and_both (g && l) (ltb b.kind 4) (rw e at q) in
    rw ((and_both g l a.0).0, held_fits b v, a.1)

written_fits : (s : BarSlot) (v : ℕ) → v < 256 → BarFits s → BarFits (bar_slot true (written_bar s.bar v))
unfolding held_to
written_fits s v h f = omega arith

written_framebuffer : (g : List ℕ) (b : Bar) (v : ℕ) → Bytes (write_of b v g)
unfolding write_of
written_framebuffer g b v =
    by_test Bytes (eqb v 0) _ _ (λ _. bytes_repaint _ _)
    (λ _. by_test Bytes (ltb b.value (held_to b v)) _ _ (λ _. bytes_repaint _ _) (λ _. bytes_repaint _ _))

-- ---- each command

module _ {n : Config} {m : ℕ} {w : World} (p : Parts n m w) where
  -- ---- drawing

  pub clear_good : Leaves n m (clear w)
  unfolding clear
  clear_good = put_text_lem (put_framebuffer p (bytes_repaint _ _)) (home_good p.port_good.text)

  pub colour_good : (c : ℕ) → Leaves n m (set_colour w c)
  unfolding set_colour
  colour_good c = put_drawing_lem p (record { x = p.port_good.drawing.x; y = p.port_good.drawing.y })

  pub pixel_good : (x y : ℕ) → Leaves n m (draw_pixel w x y)
  unfolding draw_pixel
  pixel_good x y = put_framebuffer p (bytes_repaint _ _)

  pub line_good : (x1 y1 x2 y2 : ℕ) → x2 < 256 → y2 < 256 → Leaves n m (draw_line w x1 y1 x2 y2)
  unfolding draw_line
  line_good x1 y1 x2 y2 h k = put_drawing_lem (put_framebuffer p (bytes_repaint _ _)) (record { x = h; y = k })

  pub frame_good : (c x1 y1 x2 y2 : ℕ) → Leaves n m (draw_frame w c x1 y1 x2 y2)
  unfolding draw_frame
  frame_good c x1 y1 x2 y2 = passes n m (not (ordered x1 y1 x2 y2)) 18 _ (omega arith) (λ _. put_framebuffer p (bytes_repaint _ _))

  pub solid_good : (c x1 y1 x2 y2 : ℕ) → Leaves n m (fill_rectangle w c x1 y1 x2 y2)
  unfolding fill_rectangle
  solid_good c x1 y1 x2 y2 = passes n m (not (ordered x1 y1 x2 y2)) 18 _ (omega arith) (λ _. put_framebuffer p (bytes_repaint _ _))

  -- ---- bars and strips

  pub set_up_good : (i k x1 y1 x2 y2 : ℕ) → Leaves n m (set_up_bar w i k x1 y1 x2 y2)
  unfolding set_up_bar
  set_up_good i k x1 y1 x2 y2 =
      passes n m (leb 16 i) 19 _ (omega arith) (λ _. passes n m (leb 4 k) 20 _ (omega arith) (λ hk.
      passes n m (not (in_bounds w x1 y1 x2 y2)) 17 _ (omega arith) (λ ho. passes n m (not (apart x1 y1 x2 y2)) 18 _ (omega arith) (λ ha.
      let q = inside p x1 y1 x2 y2 ho ha in
      let l = leb-false 4 k hk in
      put_bars p (bars_good p.panel_good.bars i (bar_slot true (bar_of k x1 y1 x2 y2 0)) (set_up_sound (height w) k x1 y1 x2 y2 q.framebuffer l) (set_up_canonical _) (omega (arith, q)))))))

  pub write_good : (i v : ℕ) → v < 256 → Leaves n m (write_bar w i v)
  unfolding write_bar
  write_good i v h =
      passes n m (leb 16 i) 19 _ (omega arith) (λ _. passes n m (not (bar_at (panel w) i).on) 21 _ (omega arith) (λ ho.
      let b = p.panel_good.bars in
      let s = bar_at (panel w) i in
      put_bars (put_framebuffer p (written_framebuffer w.framebuffer s.bar v)) (bars_good b i (bar_slot true (written_bar s.bar v))
      (written_sound (height w) s v (not-false s.on ho) (every_at (sound_bar (height w)) (panel w).bars i no_bar (none_sound (height w)) b.sound))
      (set_up_canonical _) (written_fits s v h (b.fits i)))))

  pub strip_good : (i x1 y1 x2 y2 : ℕ) → Leaves n m (set_up_strip w i x1 y1 x2 y2)
  unfolding set_up_strip sound_strip canonical_strip
  strip_good i x1 y1 x2 y2 =
      passes n m (leb 8 i) 19 _ (omega arith) (λ _. passes n m (not (in_bounds w x1 y1 x2 y2)) 17 _ (omega arith) (λ ho. passes n m (not (apart x1 y1 x2 y2)) 18 _ (omega arith) (λ ha.
      let q = inside p x1 y1 x2 y2 ho ha in
      put_strips p (strips_good p.panel_good.strips i (strip true x1 y1 x2 y2) q.framebuffer refl (omega (arith, q))))))

  pub shift_good : (b : ℕ) → Leaves n m (shift_strip w b)
  unfolding shift_strip
  shift_good b = passes n m (leb 8 (b % 128)) 19 _ (omega arith) (λ _. passes n m (not (strip_at (panel w) (b % 128)).on) 21 _ (omega arith) (λ _. put_framebuffer p (bytes_repaint _ _)))

  -- ---- saved bitmaps

  bitmap_at_lem : (t : Option Location) (x y : ℕ) → Leaves n m (bitmap_at w t x y)
  unfolding bitmap_at bitmap_in
  bitmap_at_lem None x y = omega arith
  bitmap_at_lem (Some f) x y = passes n m (not (is_bitmap (take f.size (drop f.start w.store)))) 23 _ (omega arith) (λ _. put_framebuffer p (bytes_repaint _ _))

  pub bitmap_good : (i x y : ℕ) → Leaves n m (show_bitmap w i x y)
  unfolding show_bitmap
  bitmap_good i x y = passes n m (too_high i) 19 _ (omega arith) (λ _. bitmap_at_lem (find_of w.store 2 i) x y)

  -- ---- settings

  pub flow_on_good : (a b : ℕ) → Leaves n m (flow_on w a b)
  unfolding flow_on
  flow_on_good a b = passes n m (leb 80 (a + b)) 27 _ (omega arith) (λ h. let l = leb-false 80 (a + b) h in put_flow p (omega (arith, l)))

  pub flow_off_good : Leaves n m (flow_off w)
  unfolding flow_off
  flow_off_good = let f = p.port_good.flow in put_flow p (omega (arith, f))

  pub contrast_good : (c : ℕ) → c < 256 → Leaves n m (set_contrast w c)
  unfolding set_contrast
  contrast_good c h = let q = p.panel_good in put_panel p (record { bars = q.bars; strips = q.strips; serial = q.serial; contrast = h; minutes = q.minutes }) refl

  pub backlight_on_good : (c : ℕ) → c < 256 → Leaves n m (backlight_on w c)
  unfolding backlight_on
  backlight_on_good c h = let q = p.panel_good in put_panel p (record { bars = q.bars; strips = q.strips; serial = q.serial; contrast = q.contrast; minutes = h }) refl

  pub backlight_off_good : Leaves n m (backlight_off w)
  unfolding backlight_off
  backlight_off_good = let q = p.panel_good in put_panel p (record { bars = q.bars; strips = q.strips; serial = q.serial; contrast = q.contrast; minutes = q.minutes }) refl

  pub serial_good : (a b : ℕ) → a < 256 → b < 256 → Leaves n m (set_serial w a b)
  unfolding set_serial canonical_serial
  serial_good a b h k =
      let q = p.panel_good in
      by_test (Leaves n m) (panel w).serial.on _ _ (λ _. p)
      (λ _. put_panel p (record { bars = q.bars; strips = q.strips; serial = record { canonical = refl; fits = record { a = h; b = k } }; contrast = q.contrast; minutes = q.minutes }) refl)
