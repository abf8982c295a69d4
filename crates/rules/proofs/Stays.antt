-- A STORED FILE IS ALTERED BY NOTHING BUT THE LAST BYTE OF ITS DELETE OR OF A PURGE; an upload's byte that is not its last alters no record and no file, and
-- time none.
-- Assumes nothing.
use Rattle.pixels.specs.Framebuffer.{width}
use mathlib.Core.Path.{◌≡◌, refl, sym, subst}
use mathlib.Core.Bool.{Bool, true, false, cond, not, ◌&&◌, ◌||◌, false≢true}
use mathlib.Core.List.{List, []}
use Prim.Native.Nat.{ℕ, ◌+◌, ◌%◌, ◌<◌}
use native.Mathlib.Omega.{arith}
use lib.Dec.{eqb, leb, ltb}
use lib.ListN.{take, drop}
use borrow.Author.Tests.{ltb-true, ltb-false, lt-ltb, not-false}
use Rattle.pixels.proofs.Tests.{by_test}
use Rattle.std.specs.Prelude.{Option, Some, None}
use Rattle.directory.specs.declared.Location.{Location}
use Rattle.directory.specs.Directory.{find_of, entries, bytes_in, has_file}
use Rattle.files.specs.Files.{unused_of}
use Rattle.opened_font.specs.Glyphs.{glyph_of}
use Rattle.fonts.specs.Bitmaps.{is_bitmap}
use Rattle.file_laws.proofs.Written.{and_both}
use Rattle.state.specs.declared.Command.{Command}
use Rattle.state.specs.declared.Command.TheVariants.{Unknown, Clear, Home, SetPoint, SetPlace, WrapOn, WrapOff, ScrollOn, ScrollOff, ChooseFont, SetMetrics, SetColour, DrawPixel, DrawLine, ContinueLine, DrawFrame, FillRectangle, SetUpBar, WriteBar, SetUpStrip, ShiftStrip, ShowBitmap, DrawInline, UploadFont, UploadBitmap, DeleteFile, Purge, FlowOn, FlowOff, SetContrast, BacklightOn, BacklightOff, SetSerial}
use Rattle.state.specs.declared.Phase.{Phase}
use Rattle.state.specs.declared.Phase.TheVariants.{Idle, Prefix, Gathering, Inline, Upload}
use Rattle.state.specs.declared.Config.{Config}
use Rattle.state.specs.Editions.{newer, is_edition, patience}
use Rattle.state.specs.State.{bar_at, strip_at}
use Rattle.state.specs.Soundness.{sound_phase}
use Rattle.state.specs.Canonical.{canonical_upload, canonical_phase}
use Rattle.state.specs.Commands.{command_of, arguments_of}
use Rattle.rules.specs.World.{World, height, edition, port, panel, used, Outcome, done, refused, refuse_if, arg}
use Rattle.rules.specs.Numbers.{too_high, number_bytes, number_at, size_in}
use Rattle.rules.specs.Fonts.{Opened, opened, shut, open_font}
use Rattle.rules.specs.Text.{place_x, place_y, Place, place, nowhere, wrapped, fitted, Ink, Drawn, drawn, ignored, drawn_by, drawn_at, drawn_on, character_in, character, font_chosen, choose_font, place_in, set_place}
use Rattle.rules.specs.Drawing.{ordered, clear, set_colour, draw_pixel, draw_line, draw_frame, fill_rectangle}
use Rattle.rules.specs.Bars.{in_bounds, apart, set_up_bar, write_bar, set_up_strip, shift_strip}
use Rattle.rules.specs.Pictures.{bitmap_in, bitmap_at, show_bitmap, begin_inline, inline_data}
use Rattle.rules.specs.Files.{in_use, kind_of, lacks_space, begin_upload, confirmed, upload_data, upload_waits, delete_file, purge}
use Rattle.rules.specs.Settings.{flow_on, flow_off, set_contrast, backlight_on, backlight_off, set_serial}
use Rattle.rules.specs.Step.{obey, outside, code, gathered, high_bitmap, no_bitmap, argument, alone, by_phase, waits, Input, byte, time, outcome, refuse, after, step}
use Rattle.rules.specs.Sound.{Good}
use Rattle.rules.specs.Stays.{Spared, Stays, Harmless, Spares}
use Rattle.rules.proofs.Good.{PhaseGood, StoreGood, Parts, parts, edition_known}
use Rattle.rules.proofs.GoodStore.{is_sort, stored_good}
use Rattle.rules.proofs.GoodPhases.{still_room}
use Rattle.rules.proofs.StaysStore.{stays_same, stays_then, stays_spared, spared_stored, stays_appended, stays_deleted}

-- ---- a byte of an upload that is not its last

spared_same : (s : List ℕ) → Spared s s
spared_same s = record { records = refl; files = λ k n. refl }

data_spares : {m : ℕ} (w : World) → StoreGood m (used w) w.store → (k n z s : ℕ) (v : Bool) (c b : ℕ) → s + 1 < z → Spared w.store (after w (upload_data w k n z s v c b)).store
unfolding upload_data after refuse
data_spares w g k n z s false c b h = spared_same w.store
data_spares w g k n z s true c b h =
    by_test (λ (o : Outcome). Spared w.store (after w o).store) (not (eqb b 1)) _ _ (λ _. spared_same w.store) (λ _. rw (lt-ltb (s + 1) z h) (spared_stored g s c))

pub confirmed_spares : (w : World) (k n z s : ℕ) (v : Bool) (c t b : ℕ) → Good w → (port w).line.phase ≡ Upload k n z s v c t → s + 1 < z → Spared w.store (step w (byte b)).store
unfolding step by_phase
confirmed_spares w k n z s v c t b g e h =
    subst (λ (f : Phase). Spared w.store (after w (by_phase f w b)).store) (sym e) (data_spares w (parts g).store k n z s v c b h)

-- ---- outcomes: the file stays, unless it is a refusal

abbrev Staying : List ℕ → ℕ → ℕ → Outcome → Type 0
Staying s k n (done v r) = Stays s v.store k n
Staying s k n (refused i r) = Unit {0}

module _ {m : ℕ} (w : World) (good-store : StoreGood m (used w) w.store) (k n : ℕ) (has : has_file (entries w.store) k n ≡ true) where
  abbrev Keeps : Outcome → Type 0
  Keeps o = Staying w.store k n o

  same : Stays w.store w.store k n
  same = stays_same w.store k n has

  unless : (bad : Bool) (i : ℕ) (o : Outcome) → (bad ≡ false → Keeps o) → Keeps (refuse_if bad i o)
  unless bad i o f = by_test (Staying w.store k n) bad (refused i []) o (λ _. tt) f

  -- ---- text

  choice : (i : ℕ) (o : Opened) → Keeps (font_chosen w i o)
  unfolding font_chosen
  choice i (opened f) = same
  choice i (shut r) = tt

  choose_stays : (i : ℕ) → Keeps (choose_font w i)
  unfolding choose_font
  choose_stays i = unless (too_high i) 19 _ (λ _. choice i (open_font (height w) w.store i))

  placing : (c r : ℕ) (o : Opened) → Keeps (place_in w c r o)
  unfolding place_in
  placing c r (shut i) = tt
  placing c r (opened f) = unless (eqb c 0 || eqb r 0 || leb width (place_x (port w).text f c) || leb (height w) (place_y (port w).text f r)) 17 _ (λ _. same)

  place_stays : (c r : ℕ) → Keeps (set_place w c r)
  unfolding set_place
  place_stays c r = placing c r (open_font (height w) w.store (port w).text.font)

  drawn_at_lem : (i : Ink) (v t : ℕ) (q : Place) → Keeps (drawn_at w i v t q)
  unfolding drawn_at
  drawn_at_lem i v t nowhere = tt
  drawn_at_lem i v t (place x y up) = same

  drawn_on_lem : (d : Drawn) → Keeps (drawn_on w d)
  unfolding drawn_on
  drawn_on_lem ignored = same
  drawn_on_lem (drawn i v t) = drawn_at_lem i v t (fitted (height w) v t (wrapped (port w).text v t))

  in_font : (c : ℕ) (o : Opened) → Keeps (character_in w c o)
  unfolding character_in
  in_font c (shut r) = tt
  in_font c (opened f) = drawn_on_lem (drawn_by f c (glyph_of f c))

  character_stays : (c : ℕ) → Keeps (character w c)
  unfolding character
  character_stays c = in_font c (open_font (height w) w.store (port w).text.font)

  bitmap_at_lem : (t : Option Location) (x y : ℕ) → Keeps (bitmap_at w t x y)
  unfolding bitmap_at bitmap_in
  bitmap_at_lem None x y = tt
  bitmap_at_lem (Some f) x y = unless (not (is_bitmap (take f.size (drop f.start w.store)))) 23 _ (λ _. same)

  -- ---- files

  upload_stays : (j i z : ℕ) → Keeps (begin_upload w j i z)
  unfolding begin_upload
  upload_stays j i z =
      by_test (Staying w.store k n) (too_high i) _ _ (λ _. tt) (λ _. by_test (Staying w.store k n) (in_use w.store j i) _ _ (λ _. tt) (λ _.
      by_test (Staying w.store k n) (lacks_space (bytes_in (entries w.store)) (unused_of w.store (used w)) (kind_of (edition w) j) z) _ _ (λ _. tt) (λ _. same)))

  delete_stays : (t i : ℕ) → (eqb (t + 1) k && eqb i n) ≡ false → Keeps (delete_file w t i)
  unfolding delete_file
  delete_stays t i h =
      unless (leb 2 t) 20 _ (λ _. unless (too_high i) 19 _ (λ _. unless (not (has_file (entries w.store) (t + 1) i)) 22 _ (λ e.
      let q = stays_deleted good-store (t + 1) i (not-false (has_file (entries w.store) (t + 1) i) e) k n h has in
      by_test (λ (v : World). Stays w.store v.store k n) (eqb (t + 1) 1 && eqb i (port w).text.font) _ _ (λ _. q) (λ _. q))))

  purge_stays : (a b : ℕ) → (eqb a 89 && eqb b 33) ≡ false → Keeps (purge w a b)
  unfolding purge
  purge_stays a b h = rw h tt

  confirmed_stays : (j i z s c t : ℕ) → is_edition (edition w) ≡ true → PhaseGood (edition w) (Upload j i z s true c t) (port w).line.args w.store
      → Stays w.store (confirmed w j i z s c).store k n
  unfolding canonical_phase canonical_upload
  confirmed_stays j i z s c t d q =
      let e = (and_both (is_sort j) true q.canonical).0 in
      let f = q.fits in
      let u = q.welcome in
      let g = stored_good good-store s c f.4 in
      let a = stays_spared (spared_stored good-store s c) k n has in
      by_test (λ (v : World). Stays w.store v.store k n) (ltb (s + 1) z) _ _ (λ _. a)
      (λ _. stays_then a (stays_appended g (edition w) j i z d e u.0 f.2 (still_room good-store (kind_of (edition w) j) z s c u.2) k n a.there))

  data_stays : (j i z s : ℕ) (v : Bool) (c t b : ℕ) → is_edition (edition w) ≡ true → PhaseGood (edition w) (Upload j i z s v c t) (port w).line.args w.store
      → Keeps (upload_data w j i z s v c b)
  unfolding upload_data
  data_stays j i z s false c t b d q = same
  data_stays j i z s true c t b d q = unless (not (eqb b 1)) 26 _ (λ _. confirmed_stays j i z s c t d q)

  waits_stays : (j i z s : ℕ) (v : Bool) (c t ms : ℕ) → Keeps (upload_waits w j i z s v c t ms)
  unfolding upload_waits
  waits_stays j i z s v c t ms = by_test (Staying w.store k n) (leb patience (t + ms)) _ _ (λ _. tt) (λ _. same)

  -- ---- every command

  commands : (c : Command) (a : List ℕ) → Harmless (edition w) c a k n → Keeps (obey c a w)
  unfolding obey clear set_colour draw_pixel draw_line draw_frame fill_rectangle set_up_bar write_bar set_up_strip shift_strip show_bitmap begin_inline flow_on flow_off set_contrast backlight_on backlight_off set_serial
  commands Unknown a h = tt
  commands Clear a h = same
  commands Home a h = same
  commands SetPoint a h = same
  commands SetPlace a h = place_stays (arg a 0) (arg a 1)
  commands WrapOn a h = same
  commands WrapOff a h = same
  commands ScrollOn a h = same
  commands ScrollOff a h = same
  commands ChooseFont a h = choose_stays (number_at (edition w) a 0)
  commands SetMetrics a h = same
  commands SetColour a h = same
  commands DrawPixel a h = same
  commands DrawLine a h = same
  commands ContinueLine a h = same
  commands DrawFrame a h = unless (not (ordered (arg a 1) (arg a 2) (arg a 3) (arg a 4))) 18 _ (λ _. same)
  commands FillRectangle a h = unless (not (ordered (arg a 1) (arg a 2) (arg a 3) (arg a 4))) 18 _ (λ _. same)
  commands SetUpBar a h =
      unless (leb 16 (arg a 0)) 19 _ (λ _. unless (leb 4 (arg a 1)) 20 _ (λ _. unless (not (in_bounds w (arg a 2) (arg a 3) (arg a 4) (arg a 5))) 17 _ (λ _.
      unless (not (apart (arg a 2) (arg a 3) (arg a 4) (arg a 5))) 18 _ (λ _. same))))
  commands WriteBar a h = unless (leb 16 (arg a 0)) 19 _ (λ _. unless (not (bar_at (panel w) (arg a 0)).on) 21 _ (λ _. same))
  commands SetUpStrip a h =
      unless (leb 8 (arg a 0)) 19 _ (λ _. unless (not (in_bounds w (arg a 1) (arg a 2) (arg a 3) (arg a 4))) 17 _ (λ _.
      unless (not (apart (arg a 1) (arg a 2) (arg a 3) (arg a 4))) 18 _ (λ _. same)))
  commands ShiftStrip a h = unless (leb 8 (arg a 0 % 128)) 19 _ (λ _. unless (not (strip_at (panel w) (arg a 0 % 128)).on) 21 _ (λ _. same))
  commands ShowBitmap a h =
      let i = number_at (edition w) a 0 in
      unless (too_high i) 19 _ (λ _. bitmap_at_lem (find_of w.store 2 i) (arg a (number_bytes (edition w))) (arg a (number_bytes (edition w) + 1)))
  commands DrawInline a h = unless (not (ordered (arg a 0) (arg a 1) (arg a 2) (arg a 3))) 18 _ (λ _. same)
  commands UploadFont a h = upload_stays 1 (number_at (edition w) a 0) (size_in (edition w) a)
  commands UploadBitmap a h = upload_stays 2 (number_at (edition w) a 0) (size_in (edition w) a)
  commands DeleteFile a h = delete_stays (arg a 0) (number_at (edition w) a 1) (h.no_delete refl)
  commands Purge a h = purge_stays (arg a 0) (arg a 1) (h.no_purge refl)
  commands FlowOn a h = unless (leb 80 (arg a 0 + arg a 1)) 27 _ (λ _. same)
  commands FlowOff a h = same
  commands SetContrast a h = same
  commands BacklightOn a h = same
  commands BacklightOff a h = same
  commands SetSerial a h = by_test (Staying w.store k n) (panel w).serial.on _ _ (λ _. same) (λ _. same)

-- ---- every input

-- a command without arguments is neither delete nor purge
none_harmless : (d : ℕ) (c : Command) (k n : ℕ) → eqb (arguments_of d c) 0 ≡ true → Harmless d c [] k n
none_harmless d c k n h =
    record { no_purge = λ e. refl; no_delete = λ e. let z : eqb (arguments_of d DeleteFile) 0 ≡ true = rw e at h in absurd (some_arguments (eqb d newer) z) }
  where
    some_arguments : (t : Bool) → eqb (cond t 3 2) 0 ≡ true → ⊥
    some_arguments true e = false≢true e
    some_arguments false e = false≢true e

module _ {n : Config} {m : ℕ} {w : World} (p : Parts n m w) (k i : ℕ) (has : has_file (entries w.store) k i ≡ true) where
  obeyed : (c : Command) (a : List ℕ) → Harmless (edition w) c a k i → Staying w.store k i (obey c a (outside w))
  obeyed c a h = commands (outside w) p.store k i has c a h

  by_phase_lem : (f : Phase) (b : ℕ) → (port w).line.phase ≡ f → Spares w (byte b) k i → PhaseGood (edition w) f (port w).line.args w.store → Staying w.store k i (by_phase f w b)
  unfolding by_phase alone code argument inline_data sound_phase
  by_phase_lem Idle b e spares q =
      by_test (Staying w.store k i) (eqb b 254) _ _ (λ _. same w p.store k i has) (λ _. character_stays w p.store k i has b)
  by_phase_lem Prefix b e spares q =
      by_test (Staying w.store k i) (eqb (arguments_of (edition w) (command_of b)) 0) _ _ (λ h. obeyed (command_of b) [] (none_harmless (edition w) (command_of b) k i h)) (λ _. same w p.store k i has)
  by_phase_lem (Gathering c g) b e spares q =
      let l = arguments_of (edition w) (command_of c) in
      unless w p.store k i has (high_bitmap w c g b) 19 _ (λ _. unless w p.store k i has (no_bitmap w c g b) 22 _ (λ _.
      by_test (Staying w.store k i) (ltb (g + 1) l) _ _ (λ _. same w p.store k i has)
      (λ h. obeyed (command_of c) (gathered w g b) (spares c g e (omega (arith, ltb-false (g + 1) l h, ltb-true g l q.sound))))))
  by_phase_lem (Inline x1 y1 x2 y2 came) b e spares q = same w p.store k i has
  by_phase_lem (Upload sort number size stored waiting held waited) b e spares q = data_stays w p.store k i has sort number size stored waiting held waited b (edition_known p) q

  by_time : (f : Phase) (ms : ℕ) → Staying w.store k i (waits f w ms)
  unfolding waits
  by_time Idle ms = same w p.store k i has
  by_time Prefix ms = same w p.store k i has
  by_time (Gathering c g) ms = same w p.store k i has
  by_time (Inline x1 y1 x2 y2 came) ms = same w p.store k i has
  by_time (Upload sort number size stored waiting held waited) ms = waits_stays w p.store k i has sort number size stored waiting held waited ms

  input_stays : (j : Input) → Spares w j k i → Staying w.store k i (outcome w j)
  input_stays (byte b) h = by_phase_lem (port w).line.phase b refl h p.port_good.phase
  input_stays (time ms) h = by_time (port w).line.phase ms

  after_stays : (o : Outcome) → Staying w.store k i o → Stays w.store (after w o).store k i
  unfolding after refuse
  after_stays (done v r) h = h
  after_stays (refused j r) h = stays_same w.store k i has

pub file_stays : (w : World) (i : Input) (k n : ℕ) → Good w → has_file (entries w.store) k n ≡ true → Spares w i k n → Stays w.store (step w i).store k n
unfolding step
file_stays w i k n g has h = let p = parts g in after_stays p k n has (outcome w i) (input_stays p k n has i h)
