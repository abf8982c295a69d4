-- Each part is read back from its bytes, and stands at its place in the record.
-- Assumes nothing.
use mathlib.Core.Path.{◌≡◌, refl, sym, ap, ◌∙◌}
use mathlib.Core.Bool.{Bool, true, false}
use mathlib.Core.List.{List, [], ◌∷◌, ◌++◌, append_assoc}
use Prim.Native.Nat.{ℕ, ◌+◌, ◌*◌, ◌<◌}
use native.Mathlib.Omega.{arith}
use lib.Dec.{eqb}
use lib.ListN.{length, drop}
use lib.Seq.{drop-drop, drop_at, get_or-drop}
use Rattle.canvas.specs.Colour.{colour, colour_of}
use Rattle.queue.specs.Record.{at, bit}
use Rattle.state.specs.declared.Phase.{Phase}
use Rattle.state.specs.declared.Phase.TheVariants.{Idle, Prefix, Gathering, Inline, Upload}
use Rattle.state.specs.declared.Text.{Text}
use Rattle.state.specs.declared.BarSlot.{BarSlot}
use Rattle.state.specs.declared.Strip.{Strip}
use Rattle.state.specs.declared.Panel.{Panel}
use Rattle.state.specs.declared.State.{State}
use Rattle.record.specs.Layout.{height_at, edition_at, panel_at}
use Rattle.record.specs.Reading.{many_of, pair_at, phase_of, arguments_in, text_of, drawing_of, flow_of, refusals_of, slot_of, strip_of, serial_of, backlight_of, panel_of}
use Rattle.record.specs.Writing.{low, high, many_bytes, gathering_bytes, data_bytes, upload_bytes, text_bytes, other_bytes, phase_bytes, port_bytes}
use Rattle.record.specs.Writing.{slot_bytes, strip_bytes, last_bytes, panel_bytes, encode_of}
use Rattle.record.proofs.Whole.{Sized, length-gathering, length-data, length-upload, length-bars, length-strips}

-- ---- from the front of a list

bit_back : (m : Bool) → eqb (bit m) 1 ≡ m
bit_back true = refl
bit_back false = refl

colour_back : (b : Bool) → colour_of (bit b) ≡ colour b
colour_back true = refl
colour_back false = refl

pair_back : (n : ℕ) → low n + 256 * high n ≡ n
pair_back n = omega arith

-- and a pair of bytes is taken apart again
pub low_is : (a b : ℕ) → a < 256 → low (a + 256 * b) ≡ a
low_is a b h = omega arith

pub high_is : (a b : ℕ) → a < 256 → high (a + 256 * b) ≡ b
high_is a b h = omega arith

phase_back : (p : Phase) (r a b c : List ℕ) → r ≡ gathering_bytes p ++ a → drop 9 r ≡ data_bytes p ++ b → drop 15 r ≡ upload_bytes p ++ c → phase_of r ≡ p
unfolding phase_of
phase_back Idle r a b c e f g = rw (f, g, e)
phase_back Prefix r a b c e f g = rw (f, g, e)
phase_back (Gathering code got) r a b c e f g = rw (f, g, e)
phase_back (Inline x1 y1 x2 y2 came) r a b c e f g = rw (f, g, e, pair_back came)
phase_back (Upload sort number size stored waiting byte waited) r a b c e f g = rw (f, g, e, pair_back number, pair_back size, pair_back stored, bit_back waiting, pair_back waited)

arguments_back : (l m : List ℕ) → length l ≡ 6 → arguments_in (l ++ m) ≡ l
arguments_back [] m e = absurd (omega arith)
arguments_back (a ∷ []) m e = absurd (omega arith)
arguments_back (a ∷ b ∷ []) m e = absurd (omega arith)
arguments_back (a ∷ b ∷ c ∷ []) m e = absurd (omega arith)
arguments_back (a ∷ b ∷ c ∷ d ∷ []) m e = absurd (omega arith)
arguments_back (a ∷ b ∷ c ∷ d ∷ f ∷ []) m e = absurd (omega arith)
arguments_back (a ∷ b ∷ c ∷ d ∷ f ∷ g ∷ []) m e = refl
arguments_back (a ∷ b ∷ c ∷ d ∷ f ∷ g ∷ h ∷ l) m e = absurd (omega arith)

text_back : (t : Text) (m : List ℕ) → text_of (text_bytes t ++ m) ≡ t
text_back t m = rw (pair_back t.font, pair_back t.x, bit_back t.wrap, bit_back t.scroll)

slot_back : (s : BarSlot) (m : List ℕ) → slot_of (slot_bytes s ++ m) ≡ s
slot_back s m = rw (bit_back s.on)

strip_back : (s : Strip) (m : List ℕ) → strip_of (strip_bytes s ++ m) ≡ s
strip_back s m = rw (bit_back s.on)

module _ {A : Type 0} (one : List ℕ → A) (bytes : A → List ℕ) (size : ℕ) (f : (a : A) (m : List ℕ) → one (bytes a ++ m) ≡ a) (g : (a : A) (m : List ℕ) → drop size (bytes a ++ m) ≡ m) where
  many_back : (l : List A) (m : List ℕ) → many_of one size (many_bytes bytes l ++ m) (length l) ≡ l
  unfolding many_of many_bytes
  many_back [] m = refl
  many_back (a ∷ l) m =
      ap (λ (r : List ℕ). one r ∷ many_of one size (drop size r) (length l)) (append_assoc (bytes a) (many_bytes bytes l) m)
      ∙ ap (λ (x : A). x ∷ many_of one size (drop size (bytes a ++ (many_bytes bytes l ++ m))) (length l)) (f a (many_bytes bytes l ++ m))
      ∙ ap (λ (r : List ℕ). a ∷ many_of one size r (length l)) (g a (many_bytes bytes l ++ m))
      ∙ ap (λ (x : List A). a ∷ x) (many_back l m)

-- ---- at its place

next : (r l m : List ℕ) (k n : ℕ) → drop k r ≡ l ++ m → length l ≡ n → drop (k + n) r ≡ m
next r l m k n e f = sym (drop-drop n k r) ∙ ap (drop n) e ∙ drop_at l m n f

module _ (q : Panel) (b : length q.bars ≡ 16) (t : length q.strips ≡ 8) where
  bars_written : panel_bytes q ≡ many_bytes slot_bytes q.bars ++ (many_bytes strip_bytes q.strips ++ last_bytes q)
  unfolding panel_bytes
  bars_written = refl

  strips_written : drop 112 (panel_bytes q) ≡ many_bytes strip_bytes q.strips ++ last_bytes q
  strips_written = next (panel_bytes q) (many_bytes slot_bytes q.bars) _ 0 112 bars_written (length-bars q b)

  last_written : drop 152 (panel_bytes q) ≡ last_bytes q
  last_written = next (panel_bytes q) (many_bytes strip_bytes q.strips) _ 112 40 strips_written (length-strips q t)

  last_byte : (j : ℕ) → at (panel_bytes q) (152 + j) ≡ at (last_bytes q) j
  last_byte j = sym (get_or-drop 152 (panel_bytes q) j 0) ∙ ap (λ (l : List ℕ). at l j) last_written

  bars_back : many_of slot_of 7 (panel_bytes q) 16 ≡ q.bars
  bars_back = rw (← b, bars_written) (many_back slot_of slot_bytes 7 slot_back (λ a m. refl) q.bars _)

  strips_back : many_of strip_of 5 (drop 112 (panel_bytes q)) 8 ≡ q.strips
  strips_back = rw (← t, strips_written) (many_back strip_of strip_bytes 5 strip_back (λ a m. refl) q.strips _)

  serial_back : serial_of (drop 152 (panel_bytes q)) ≡ q.serial
  serial_back = ap serial_of last_written ∙ rw (bit_back q.serial.on)

  contrast_back : at (panel_bytes q) 155 ≡ q.contrast
  contrast_back = last_byte 3

  backlight_back : backlight_of (drop 156 (panel_bytes q)) ≡ q.backlight
  backlight_back = ap backlight_of (sym (drop-drop 4 152 (panel_bytes q)) ∙ ap (drop 4) last_written) ∙ rw (bit_back q.backlight.on)

  used_back : pair_at (panel_bytes q) 158 ≡ q.used
  used_back = rw (last_byte 6, last_byte 7) (pair_back q.used)

  pub panel_back : panel_of (panel_bytes q) ≡ q
  unfolding panel_of
  panel_back = rw (bars_back, strips_back, serial_back, contrast_back, backlight_back, used_back)

module _ (s : State) (z : Sized s) where
  abbrev behind : List ℕ
  behind = s.config.height ∷ s.config.edition ∷ panel_bytes s.panel

  flat : encode_of s ≡ gathering_bytes s.port.line.phase
      ++ (s.port.line.args ++ (data_bytes s.port.line.phase ++ (upload_bytes s.port.line.phase ++ (text_bytes s.port.text ++ (other_bytes s.port ++ behind)))))
  unfolding encode_of port_bytes phase_bytes
  flat = simp append_assoc

  at_arguments : drop 3 (encode_of s) ≡ s.port.line.args ++ (data_bytes s.port.line.phase ++ (upload_bytes s.port.line.phase ++ (text_bytes s.port.text ++ (other_bytes s.port ++ behind))))
  at_arguments = next (encode_of s) (gathering_bytes s.port.line.phase) _ 0 3 flat (length-gathering s.port.line.phase)

  at_data : drop 9 (encode_of s) ≡ data_bytes s.port.line.phase ++ (upload_bytes s.port.line.phase ++ (text_bytes s.port.text ++ (other_bytes s.port ++ behind)))
  at_data = next (encode_of s) s.port.line.args _ 3 6 at_arguments z.args

  at_upload : drop 15 (encode_of s) ≡ upload_bytes s.port.line.phase ++ (text_bytes s.port.text ++ (other_bytes s.port ++ behind))
  at_upload = next (encode_of s) (data_bytes s.port.line.phase) _ 9 6 at_data (length-data s.port.line.phase)

  at_text : drop 26 (encode_of s) ≡ text_bytes s.port.text ++ (other_bytes s.port ++ behind)
  at_text = next (encode_of s) (upload_bytes s.port.line.phase) _ 15 11 at_upload (length-upload s.port.line.phase)

  at_drawing : drop 38 (encode_of s) ≡ other_bytes s.port ++ behind
  at_drawing = next (encode_of s) (text_bytes s.port.text) _ 26 12 at_text refl

  at_flow : drop 41 (encode_of s) ≡ drop 3 (other_bytes s.port) ++ behind
  at_flow = sym (drop-drop 3 38 (encode_of s)) ∙ ap (drop 3) at_drawing

  at_refusals : drop 44 (encode_of s) ≡ drop 6 (other_bytes s.port) ++ behind
  at_refusals = sym (drop-drop 6 38 (encode_of s)) ∙ ap (drop 6) at_drawing

  at_height : drop height_at (encode_of s) ≡ behind
  at_height = next (encode_of s) (other_bytes s.port) _ 38 9 at_drawing refl

  at_panel : drop panel_at (encode_of s) ≡ panel_bytes s.panel
  at_panel = sym (drop-drop 2 height_at (encode_of s)) ∙ ap (drop 2) at_height

  -- ---- and is read there

  pub phase_read : phase_of (encode_of s) ≡ s.port.line.phase
  phase_read = phase_back s.port.line.phase (encode_of s) _ _ _ flat at_data at_upload

  pub arguments_read : arguments_in (drop 3 (encode_of s)) ≡ s.port.line.args
  arguments_read = ap arguments_in at_arguments ∙ arguments_back s.port.line.args _ z.args

  pub text_read : text_of (drop 26 (encode_of s)) ≡ s.port.text
  text_read = ap text_of at_text ∙ text_back s.port.text (other_bytes s.port ++ behind)

  pub drawing_read : drawing_of (drop 38 (encode_of s)) ≡ s.port.drawing
  drawing_read = ap drawing_of at_drawing ∙ rw (colour_back s.port.drawing.colour.black)

  pub flow_read : flow_of (drop 41 (encode_of s)) ≡ s.port.flow
  flow_read = ap flow_of at_flow ∙ rw (bit_back s.port.flow.on)

  pub refusals_read : refusals_of (drop 44 (encode_of s)) ≡ s.port.refusals
  refusals_read = ap refusals_of at_refusals ∙ rw (pair_back s.port.refusals.count)

  pub height_read : at (encode_of s) height_at ≡ s.config.height
  height_read = sym (get_or-drop height_at (encode_of s) 0 0) ∙ ap (λ (l : List ℕ). at l 0) at_height

  pub edition_read : at (encode_of s) edition_at ≡ s.config.edition
  edition_read = sym (get_or-drop height_at (encode_of s) 1 0) ∙ ap (λ (l : List ℕ). at l 1) at_height

  pub panel_read : panel_of (drop panel_at (encode_of s)) ≡ s.panel
  panel_read = ap panel_of at_panel ∙ panel_back s.panel z.bars z.strips
