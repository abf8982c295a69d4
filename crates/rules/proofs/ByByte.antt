-- Every input obeys its event, and so demand 3 holds of every stream.
-- Assumes nothing.
use mathlib.Core.Path.{◌≡◌, refl, subst, ◌∙◌}
use mathlib.Core.Bool.{Bool, true, false, cond}
use mathlib.Core.List.{List, []}
use Prim.Native.Nat.{ℕ, ◌+◌}
use lib.Dec.{eqb, ltb}
use lib.ListN.{length}
use Rattle.bar_ledger.specs.Ledger.{Event, quiet}
use Rattle.bar_ledger.specs.Claim.{Agrees}
use Rattle.bar_ledger.proofs.Keep.{Obeys, bar_by}
use Rattle.bar_ledger.proofs.Theorem.{agrees}
use Rattle.state.specs.declared.Command.{Command}
use Rattle.state.specs.declared.Command.TheVariants.{Unknown, Clear, Home, SetPoint, SetPlace, WrapOn, WrapOff, ScrollOn, ScrollOff, ChooseFont, SetMetrics, SetColour, DrawPixel, DrawLine, ContinueLine, DrawFrame, FillRectangle, SetUpBar, WriteBar, SetUpStrip, ShiftStrip, ShowBitmap, DrawInline, UploadFont, UploadBitmap, DeleteFile, Purge, FlowOn, FlowOff, SetContrast, BacklightOn, BacklightOff, SetSerial}
use Rattle.state.specs.declared.Phase.{Phase}
use Rattle.state.specs.declared.Phase.TheVariants.{Idle, Prefix, Gathering, Inline, Upload}
use Rattle.state.specs.Commands.{command_of, arguments_of}
use Rattle.rules.specs.World.{World, edition, port, panel, Outcome, done, refused, arg}
use Rattle.rules.specs.Numbers.{number_bytes, number_at, size_in}
use Rattle.rules.specs.Drawing.{set_colour}
use Rattle.rules.specs.Settings.{flow_off, set_contrast, backlight_on, backlight_off}
use Rattle.rules.specs.Step.{obey, outside, code, gathered, high_bitmap, no_bitmap, argument, alone, by_phase, waits, Input, byte, time, outcome, refuse, after, step}
use Rattle.rules.specs.Sound.{Shaped}
use Rattle.rules.specs.Events.{view, meaning, meant, unless_refused, event}
use Rattle.rules.proofs.Obeying.{Obeying, passes, fair_quiet}
use Rattle.rules.proofs.ByCommand.{clear_obeys, pixel_obeys, line_obeys, frame_obeys, solid_obeys, set_up_obeys, write_obeys, strip_obeys, shift_obeys, bitmap_obeys, corners_obey, inline_obeys, choose_obeys, place_obeys, character_obeys, upload_obeys, data_obeys, waits_obeys, delete_obeys, purge_obeys, flow_obeys, serial_obeys}

commands : (c : Command) (a : List ℕ) (w : World) → Shaped w → Obeying (outside w) (meaning c a w) (obey c a (outside w))
unfolding obey meaning set_colour flow_off set_contrast backlight_on backlight_off
commands Unknown a w s = tt
commands Clear a w s = clear_obeys (outside w)
commands Home a w s = fair_quiet (outside w) _ refl refl refl refl
commands SetPoint a w s = fair_quiet (outside w) _ refl refl refl refl
commands SetPlace a w s = place_obeys (outside w) (arg a 0) (arg a 1)
commands WrapOn a w s = fair_quiet (outside w) _ refl refl refl refl
commands WrapOff a w s = fair_quiet (outside w) _ refl refl refl refl
commands ScrollOn a w s = fair_quiet (outside w) _ refl refl refl refl
commands ScrollOff a w s = fair_quiet (outside w) _ refl refl refl refl
commands ChooseFont a w s = choose_obeys (outside w) (number_at (edition w) a 0)
commands SetMetrics a w s = fair_quiet (outside w) _ refl refl refl refl
commands SetColour a w s = fair_quiet (outside w) _ refl refl refl refl
commands DrawPixel a w s = pixel_obeys (outside w) (arg a 0) (arg a 1)
commands DrawLine a w s = line_obeys (outside w) (arg a 0) (arg a 1) (arg a 2) (arg a 3)
commands ContinueLine a w s = line_obeys (outside w) (port w).drawing.x (port w).drawing.y (arg a 0) (arg a 1)
commands DrawFrame a w s = frame_obeys (outside w) (arg a 0) (arg a 1) (arg a 2) (arg a 3) (arg a 4)
commands FillRectangle a w s = solid_obeys (outside w) (arg a 0) (arg a 1) (arg a 2) (arg a 3) (arg a 4)
commands SetUpBar a w s = set_up_obeys (outside w) (arg a 0) (arg a 1) (arg a 2) (arg a 3) (arg a 4) (arg a 5) s
commands WriteBar a w s = write_obeys (outside w) (arg a 0) (arg a 1) s
commands SetUpStrip a w s = strip_obeys (outside w) (arg a 0) (arg a 1) (arg a 2) (arg a 3) (arg a 4)
commands ShiftStrip a w s = shift_obeys (outside w) (arg a 0)
commands ShowBitmap a w s = bitmap_obeys (outside w) (number_at (edition w) a 0) (arg a (number_bytes (edition w))) (arg a (number_bytes (edition w) + 1))
commands DrawInline a w s = corners_obey (outside w) (arg a 0) (arg a 1) (arg a 2) (arg a 3)
commands UploadFont a w s = upload_obeys (outside w) 1 (number_at (edition w) a 0) (size_in (edition w) a)
commands UploadBitmap a w s = upload_obeys (outside w) 2 (number_at (edition w) a 0) (size_in (edition w) a)
commands DeleteFile a w s = delete_obeys (outside w) (arg a 0) (number_at (edition w) a 1)
commands Purge a w s = purge_obeys (outside w) (arg a 0) (arg a 1)
commands FlowOn a w s = flow_obeys (outside w) (arg a 0) (arg a 1)
commands FlowOff a w s = fair_quiet (outside w) _ refl refl refl refl
commands SetContrast a w s = fair_quiet (outside w) _ refl refl refl refl
commands BacklightOn a w s = fair_quiet (outside w) _ refl refl refl refl
commands BacklightOff a w s = fair_quiet (outside w) _ refl refl refl refl
commands SetSerial a w s = serial_obeys (outside w) (arg a 0) (arg a 1)

-- to be outside a command changes nothing that is seen
seen : (w : World) (e : Event) (o : Outcome) → Obeying (outside w) e o → Obeying w e o
seen w e (done v r) f = record { obeys = f.obeys; bars = f.bars; strips = f.strips; refusals = f.refusals }
seen w e (refused n r) f = tt

obey_fair : (c : Command) (a : List ℕ) (w : World) → Shaped w → Obeying w (meaning c a w) (obey c a (outside w))
obey_fair c a w s = seen w (meaning c a w) (obey c a (outside w)) (commands c a w s)

-- one test decides both the outcome and the event
both : (w : World) (t : Bool) (e f : Event) (o p : Outcome) → (t ≡ true → Obeying w e o) → (t ≡ false → Obeying w f p) → Obeying w (cond t e f) (cond t o p)
both w true e f o p h k = h refl
both w false e f o p h k = k refl

code_obeys : (w : World) (b : ℕ) → Shaped w → Obeying w (meant Prefix w b) (code w b)
unfolding meant code
code_obeys w b s =
    both w (eqb (arguments_of (edition w) (command_of b)) 0) _ _ _ _ (λ _. obey_fair (command_of b) [] w s) (λ _. fair_quiet w _ refl refl refl refl)

argument_obeys : (w : World) (c g b : ℕ) → Shaped w → Obeying w (meant (Gathering c g) w b) (argument w c g b)
unfolding meant argument
argument_obeys w c g b s =
    passes w _ (high_bitmap w c g b) 19 _ (λ _. passes w _ (no_bitmap w c g b) 22 _ (λ _.
    both w (ltb (g + 1) (arguments_of (edition w) (command_of c))) _ _ _ _ (λ _. fair_quiet w _ refl refl refl refl) (λ _. obey_fair (command_of c) (gathered w g b) w s)))

alone_obeys : (w : World) (b : ℕ) → Obeying w (meant Idle w b) (alone w b)
unfolding meant alone
alone_obeys w b = both w (eqb b 254) _ _ _ _ (λ _. fair_quiet w _ refl refl refl refl) (λ _. character_obeys w b)

pub phase_obeys : (p : Phase) (w : World) (b : ℕ) → Shaped w → Obeying w (meant p w b) (by_phase p w b)
unfolding by_phase meant
phase_obeys Idle w b s = alone_obeys w b
phase_obeys Prefix w b s = code_obeys w b s
phase_obeys (Gathering code got) w b s = argument_obeys w code got b s
phase_obeys (Inline x1 y1 x2 y2 came) w b s = inline_obeys w x1 y1 x2 y2 came b
phase_obeys (Upload sort number size stored waiting held waited) w b s = data_obeys w sort number size stored waiting held b

-- time paints nothing
time_obeys : (p : Phase) (w : World) (ms : ℕ) → Obeying w quiet (waits p w ms)
unfolding waits
time_obeys Idle w ms = fair_quiet w w refl refl refl refl
time_obeys Prefix w ms = fair_quiet w w refl refl refl refl
time_obeys (Gathering code got) w ms = fair_quiet w w refl refl refl refl
time_obeys (Inline x1 y1 x2 y2 came) w ms = fair_quiet w w refl refl refl refl
time_obeys (Upload sort number size stored waiting held waited) w ms = waits_obeys w sort number size stored waiting held waited ms

-- what an input means, were it not refused
abbrev pub means_of : World → Input → Event
means_of w (byte b) = meant (port w).line.phase w b
means_of w (time ms) = quiet

pub input_obeys : (w : World) (i : Input) → Shaped w → Obeying w (means_of w i) (outcome w i)
input_obeys w (byte b) s = phase_obeys (port w).line.phase w b s
input_obeys w (time ms) s = time_obeys (port w).line.phase w ms

-- ---- a step

pub record Stepped (w : World) (e : Event) (v : World) : Type 0 where
  pub obeys : Obeys e (view w) (view v)
  pub bars : length (panel v).bars ≡ length (panel w).bars
  pub strips : length (panel v).strips ≡ length (panel w).strips

stepped : (w : World) (e : Event) (o : Outcome) → Obeying w e o → Stepped w (unless_refused o e) (after w o)
unfolding after refuse bar_by
stepped w e (done v r) f = record { obeys = f.obeys; bars = f.bars; strips = f.strips }
stepped w e (refused n r) f = record { obeys = record { paints = refl; bars = λ i. refl }; bars = refl; strips = refl }

quiet_always : (o : Outcome) → unless_refused o quiet ≡ quiet
quiet_always (done v r) = refl
quiet_always (refused n r) = refl

pub input_steps : (w : World) (i : Input) → Shaped w → Stepped w (event w i) (step w i)
unfolding event step
input_steps w (byte b) s = stepped w (means_of w (byte b)) (outcome w (byte b)) (input_obeys w (byte b) s)
input_steps w (time ms) s =
    let o = outcome w (time ms) in
    subst (λ (e : Event). Stepped w e (after w o)) (quiet_always o) (stepped w quiet o (input_obeys w (time ms) s))

pub shaped_step : (w : World) (i : Input) → Shaped w → Shaped (step w i)
shaped_step w i s = (input_steps w i s).bars ∙ s

-- DEMAND 3, of the rules: from any world with sixteen bars, after every input of every stream
pub demand_3 : (w : World) → Shaped w → (l : List Input) → Agrees view step event w l
demand_3 w s l = agrees view step event Shaped shaped_step (λ v i t. (input_steps v i t).obeys) w s l
