-- EVERY INPUT KEEPS A GOOD WORLD GOOD, the start is good, and the board's choice and the lengths of framebuffer and store stay.
-- Assumes nothing.
use mathlib.Core.Path.{◌≡◌, refl}
use mathlib.Core.Bool.{true, false, cond}
use mathlib.Core.List.{List, [], ◌∷◌}
use Prim.Native.Nat.{ℕ, zero, suc, ◌+◌, ◌≤◌, ◌<◌}
use native.Mathlib.Omega.{arith}
use lib.Dec.{eqb, ltb}
use lib.ListN.{length, take, set}
use borrow.Author.Tests.{ltb-true, lt-ltb, eqb-false}
use Rattle.pixels.proofs.Tests.{by_test}
use Rattle.bar_ledger.proofs.Keep.{keeps_out}
use Rattle.directory.specs.Directory.{entries, sizes_in, valid_of}
use Rattle.file_laws.proofs.Written.{valid}
use Rattle.queue.specs.Record.{Bytes}
use Rattle.state.specs.declared.Command.{Command}
use Rattle.state.specs.declared.Command.TheVariants.{Unknown, Clear, Home, SetPoint, SetPlace, WrapOn, WrapOff, ScrollOn, ScrollOff, ChooseFont, SetMetrics, SetColour, DrawPixel, DrawLine, ContinueLine, DrawFrame, FillRectangle, SetUpBar, WriteBar, SetUpStrip, ShiftStrip, ShowBitmap, DrawInline, UploadFont, UploadBitmap, DeleteFile, Purge, FlowOn, FlowOff, SetContrast, BacklightOn, BacklightOff, SetSerial}
use Rattle.state.specs.declared.Phase.{Phase}
use Rattle.state.specs.declared.Phase.TheVariants.{Idle, Prefix, Gathering, Inline, Upload}
use Rattle.state.specs.declared.Config.{Config}
use Rattle.state.specs.Editions.{older, newer}
use Rattle.state.specs.State.{start_state}
use Rattle.state.specs.Soundness.{sound_phase, sound_config}
use Rattle.state.specs.Fits.{ConfigFits}
use Rattle.state.specs.Canonical.{canonical_phase}
use Rattle.state.specs.Commands.{command_of, arguments_of}
use Rattle.state.proofs.Start.{start_sound, start_thresholds, start_canonical, start_fits}
use Rattle.rules.specs.World.{World, world, edition, port, Outcome, done, refused, arg}
use Rattle.rules.specs.Numbers.{number_bytes, number_at, size_in}
use Rattle.rules.specs.Step.{obey, outside, code, high_bitmap, no_bitmap, argument, alone, by_phase, waits, Input, byte, time, outcome, refuse, after, step}
use Rattle.rules.specs.Calls.{bytes, run}
use Rattle.rules.specs.Events.{view, event}
use Rattle.rules.specs.Sound.{store_most, Comes, ComesAll, Good}
use Rattle.rules.proofs.ByByte.{input_steps}
use Rattle.rules.proofs.Good.{PhaseGood, Parts, parts, good, put_text_lem, put_refusals, put_phase, Leaves, passes}
use Rattle.rules.proofs.GoodLists.{bytes_none, bytes_set, args_set, zeros_set}
use Rattle.rules.proofs.GoodText.{at_point_lem, home_good, wrap_good, scroll_good, metrics_good, choose_good, place_good, character_good}
use Rattle.rules.proofs.GoodCommands.{clear_good, colour_good, pixel_good, line_good, frame_good, solid_good, set_up_good, write_good, strip_good, shift_good, bitmap_good, flow_on_good, flow_off_good, contrast_good, backlight_on_good, backlight_off_good, serial_good}
use Rattle.rules.proofs.GoodPhases.{settled, idle_good, corners_good, inline_good, upload_good, data_good, waits_good, delete_good, purge_good}

-- at most six arguments, in either edition
module _ (e : ℕ) where
  most : (n m : ℕ) → n ≤ 6 → m ≤ 6 → cond (eqb e newer) m n ≤ 6
  most n m h k = by_test (λ (x : ℕ). x ≤ 6) (eqb e newer) m n (λ _. k) (λ _. h)

  pub six_most : (c : Command) → arguments_of e c ≤ 6
  six_most Unknown = most 0 0 (omega arith) (omega arith)
  six_most Clear = most 0 0 (omega arith) (omega arith)
  six_most Home = most 0 0 (omega arith) (omega arith)
  six_most SetPoint = most 2 2 (omega arith) (omega arith)
  six_most SetPlace = most 2 2 (omega arith) (omega arith)
  six_most WrapOn = most 0 0 (omega arith) (omega arith)
  six_most WrapOff = most 0 0 (omega arith) (omega arith)
  six_most ScrollOn = most 0 0 (omega arith) (omega arith)
  six_most ScrollOff = most 0 0 (omega arith) (omega arith)
  six_most ChooseFont = most 1 2 (omega arith) (omega arith)
  six_most SetMetrics = most 5 5 (omega arith) (omega arith)
  six_most SetColour = most 1 1 (omega arith) (omega arith)
  six_most DrawPixel = most 2 2 (omega arith) (omega arith)
  six_most DrawLine = most 4 4 (omega arith) (omega arith)
  six_most ContinueLine = most 2 2 (omega arith) (omega arith)
  six_most DrawFrame = most 5 5 (omega arith) (omega arith)
  six_most FillRectangle = most 5 5 (omega arith) (omega arith)
  six_most SetUpBar = most 6 6 (omega arith) (omega arith)
  six_most WriteBar = most 2 2 (omega arith) (omega arith)
  six_most SetUpStrip = most 5 5 (omega arith) (omega arith)
  six_most ShiftStrip = most 1 1 (omega arith) (omega arith)
  six_most ShowBitmap = most 3 4 (omega arith) (omega arith)
  six_most DrawInline = most 4 4 (omega arith) (omega arith)
  six_most UploadFont = most 3 6 (omega arith) (omega arith)
  six_most UploadBitmap = most 3 6 (omega arith) (omega arith)
  six_most DeleteFile = most 2 3 (omega arith) (omega arith)
  six_most Purge = most 2 2 (omega arith) (omega arith)
  six_most FlowOn = most 2 2 (omega arith) (omega arith)
  six_most FlowOff = most 0 0 (omega arith) (omega arith)
  six_most SetContrast = most 1 1 (omega arith) (omega arith)
  six_most BacklightOn = most 1 1 (omega arith) (omega arith)
  six_most BacklightOff = most 0 0 (omega arith) (omega arith)
  six_most SetSerial = most 2 2 (omega arith) (omega arith)

-- a file's number has two bytes, and one in the older edition
number_fits : (e : ℕ) (a : List ℕ) (i : ℕ) → Bytes a → number_at e a i < 65536
number_fits e a i b = by_test (λ (x : ℕ). x < 65536) (eqb e newer) _ _ (λ _. omega (arith, b i, b (i + 1))) (λ _. omega (arith, b i))

number_older : (e : ℕ) (a : List ℕ) (i : ℕ) → Bytes a → e ≡ older → number_at e a i < 256
number_older e a i b h = rw h (b i)

module _ {n : Config} {m : ℕ} {w : World} (p : Parts n m w) where
  out : Parts n m (outside w)
  out = put_phase p (idle_good (edition w) w.store)

  commands : (c : Command) (a : List ℕ) → Bytes a → Leaves n m (obey c a (outside w))
  unfolding obey
  commands Unknown a b = omega arith
  commands Clear a b = clear_good out
  commands Home a b = put_text_lem out (home_good p.port_good.text)
  commands SetPoint a b = put_text_lem out (at_point_lem p.port_good.text (arg a 0) (arg a 1) (omega (arith, b 0)) (b 1))
  commands SetPlace a b = place_good out (arg a 0) (arg a 1)
  commands WrapOn a b = put_text_lem out (wrap_good p.port_good.text true)
  commands WrapOff a b = put_text_lem out (wrap_good p.port_good.text false)
  commands ScrollOn a b = put_text_lem out (scroll_good p.port_good.text true)
  commands ScrollOff a b = put_text_lem out (scroll_good p.port_good.text false)
  commands ChooseFont a b = choose_good out (number_at (edition w) a 0) (number_fits (edition w) a 0 b)
  commands SetMetrics a b = put_text_lem out (metrics_good p.port_good.text a b)
  commands SetColour a b = colour_good out (arg a 0)
  commands DrawPixel a b = pixel_good out (arg a 0) (arg a 1)
  commands DrawLine a b = line_good out (arg a 0) (arg a 1) (arg a 2) (arg a 3) (b 2) (b 3)
  commands ContinueLine a b = line_good out (port w).drawing.x (port w).drawing.y (arg a 0) (arg a 1) (b 0) (b 1)
  commands DrawFrame a b = frame_good out (arg a 0) (arg a 1) (arg a 2) (arg a 3) (arg a 4)
  commands FillRectangle a b = solid_good out (arg a 0) (arg a 1) (arg a 2) (arg a 3) (arg a 4)
  commands SetUpBar a b = set_up_good out (arg a 0) (arg a 1) (arg a 2) (arg a 3) (arg a 4) (arg a 5)
  commands WriteBar a b = write_good out (arg a 0) (arg a 1) (b 1)
  commands SetUpStrip a b = strip_good out (arg a 0) (arg a 1) (arg a 2) (arg a 3) (arg a 4)
  commands ShiftStrip a b = shift_good out (arg a 0)
  commands ShowBitmap a b = bitmap_good out (number_at (edition w) a 0) (arg a (number_bytes (edition w))) (arg a (number_bytes (edition w) + 1))
  commands DrawInline a b = corners_good out (arg a 0) (arg a 1) (arg a 2) (arg a 3) (b 0) (b 1) (b 2) (b 3)
  commands UploadFont a b = upload_good out 1 (number_at (edition w) a 0) (size_in (edition w) a) refl (omega arith) (number_fits (edition w) a 0 b) (number_older (edition w) a 0 b)
  commands UploadBitmap a b = upload_good out 2 (number_at (edition w) a 0) (size_in (edition w) a) refl (omega arith) (number_fits (edition w) a 0 b) (number_older (edition w) a 0 b)
  commands DeleteFile a b = delete_good out (idle_good (edition w)) (arg a 0) (number_at (edition w) a 1)
  commands Purge a b = purge_good out (idle_good (edition w)) (arg a 0) (arg a 1)
  commands FlowOn a b = flow_on_good out (arg a 0) (arg a 1)
  commands FlowOff a b = flow_off_good out
  commands SetContrast a b = contrast_good out (arg a 0) (b 0)
  commands BacklightOn a b = backlight_on_good out (arg a 0) (b 0)
  commands BacklightOff a b = backlight_off_good out
  commands SetSerial a b = serial_good out (arg a 0) (arg a 1) (b 0) (b 1)

  -- ---- bytes

  alone_good : (b : ℕ) → Leaves n m (alone w b)
  unfolding alone sound_phase canonical_phase
  alone_good b = by_test (Leaves n m) (eqb b 254) _ _ (λ _. put_phase p (settled (edition w) Prefix w.store refl refl refl tt tt)) (λ _. character_good p b)

  code_good : (b : ℕ) → b < 256 → Leaves n m (code w b)
  unfolding code sound_phase canonical_phase
  code_good b h =
      let k = arguments_of (edition w) (command_of b) in
      by_test (Leaves n m) (eqb k 0) _ _ (λ _. commands (command_of b) [] bytes_none)
      (λ e. put_phase p (settled (edition w) (Gathering b 0) w.store (lt-ltb 0 k (omega (arith, eqb-false k 0 e))) refl refl (h, omega arith) tt))

  argument_good : (c g b : ℕ) → PhaseGood (edition w) (Gathering c g) (port w).line.args w.store → b < 256 → Leaves n m (argument w c g b)
  unfolding argument sound_phase canonical_phase
  argument_good c g b q h =
      let k = arguments_of (edition w) (command_of c) in
      passes n m (high_bitmap w c g b) 19 _ (omega arith) (λ _. passes n m (no_bitmap w c g b) 22 _ (omega arith) (λ _.
      by_test (Leaves n m) (ltb (g + 1) k) _ _
      (λ e. put_phase p (record {
        sound = e;
        canonical = refl;
        zeros = zeros_set (port w).line.args g b q.zeros;
        fits = (q.fits.0, omega (arith, ltb-true (g + 1) k e, six_most (edition w) (command_of c)));
        args = args_set (port w).line.args g b q.args h;
        welcome = tt;
      }))
      (λ _. commands (command_of c) (set (port w).line.args g b) (bytes_set (port w).line.args g b q.args.bytes h))))

  phase_good : (f : Phase) (b : ℕ) → PhaseGood (edition w) f (port w).line.args w.store → b < 256 → Leaves n m (by_phase f w b)
  unfolding by_phase
  phase_good Idle b q h = alone_good b
  phase_good Prefix b q h = code_good b h
  phase_good (Gathering code got) b q h = argument_good code got b q h
  phase_good (Inline x1 y1 x2 y2 came) b q h = inline_good p x1 y1 x2 y2 came b q
  phase_good (Upload sort number size stored waiting held waited) b q h = data_good p sort number size stored waiting held waited b q h

  time_good : (f : Phase) (ms : ℕ) → PhaseGood (edition w) f (port w).line.args w.store → Leaves n m (waits f w ms)
  unfolding waits
  time_good Idle ms q = p
  time_good Prefix ms q = p
  time_good (Gathering code got) ms q = p
  time_good (Inline x1 y1 x2 y2 came) ms q = p
  time_good (Upload sort number size stored waiting held waited) ms q = waits_good p sort number size stored waiting held waited ms q

  -- a refusal ends what was under way and is counted
  after_good : (o : Outcome) → Leaves n m o → Parts n m (after w o)
  unfolding after refuse
  after_good (done v r) h = h
  after_good (refused k r) h = put_refusals out (record { count = omega arith; last = omega (arith, h) })

  pub input_leaves : (i : Input) → Comes i → Leaves n m (outcome w i)
  input_leaves (byte b) h = phase_good (port w).line.phase b p.port_good.phase h
  input_leaves (time ms) h = time_good (port w).line.phase ms p.port_good.phase

  pub parts_step : (i : Input) → Comes i → Parts n m (step w i)
  unfolding step
  parts_step i h = after_good (outcome w i) (input_leaves i h)

-- THE THEOREM, for one input and for every stream
pub good_step : (w : World) (i : Input) → Good w → Comes i → Good (step w i)
good_step w i g h = good (parts_step (parts g) i h)

pub good_run : (w : World) (l : List Input) → Good w → ComesAll l → Good (run w l)
unfolding run
good_run w [] g h = g
good_run w (i ∷ l) g h = good_run (step w i) l (good_step w i g h.0) h.1

-- a piece of bytes
pub bytes_come : (l : List ℕ) → Bytes l → ComesAll (bytes l)
unfolding bytes
bytes_come [] h = tt
bytes_come (b ∷ l) h = (h 0, bytes_come l (λ i. h (suc i)))

pub take_comes : (n : ℕ) (l : List Input) → ComesAll l → ComesAll (take n l)
take_comes zero l h = tt
take_comes (suc n) [] h = tt
take_comes (suc n) (i ∷ l) h = (h.0, take_comes n l h.1)

-- ---- what was chosen, and lengths

pub config_stays : (w : World) (i : Input) → Good w → Comes i → (step w i).state.config ≡ w.state.config
config_stays w i g h = (parts_step (parts g) i h).config.same

pub framebuffer_length : (w : World) (i : Input) → Good w → length (step w i).framebuffer ≡ length w.framebuffer
framebuffer_length w i g = (keeps_out (event w i) (view w) (view (step w i)) (input_steps w i g.fits.panel.sixteen).obeys).long

pub store_length : (w : World) (i : Input) → Good w → Comes i → length (step w i).store ≡ length w.store
store_length w i g h = (parts_step (parts g) i h).store.long

-- ---- the start

pub good_start : (c : Config) (g s : List ℕ) → sound_config c ≡ true → ConfigFits c → Bytes g → Bytes s → valid_of s ≡ true → length s ≤ store_most → Good (world g s (start_state c (sizes_in (entries s))))
good_start c g s k f b d v l =
    record {
      sound = start_sound c _ k;
      thresholds = start_thresholds c.height;
      canonical = start_canonical c _;
      fits = start_fits c _ f (omega (arith, l, (valid s v).room));
      store = record { bytes = d; valid = v; most = l };
      framebuffer = b;
      upload = tt;
      sum = refl;
    }
