-- A state that fits is written in bytes, and what is read from bytes fits.
-- Assumes nothing.
use mathlib.Core.Path.{refl}
use mathlib.Core.Bool.{Bool, true, false, cond}
use mathlib.Core.List.{List, [], ◌∷◌, ◌++◌}
use Prim.Native.Nat.{ℕ, zero, suc, ◌+◌, ◌<◌}
use native.Mathlib.Omega.{arith}
use lib.Dec.{eqb, lit<}
use lib.ListN.{get_or, drop}
use lib.Seq.{get_or-drop}
use Rattle.queue.specs.Record.{at, bit, Bytes}
use Rattle.state.specs.declared.Phase.{Phase}
use Rattle.state.specs.declared.Phase.TheVariants.{Idle, Prefix, Gathering, Inline, Upload}
use Rattle.state.specs.declared.Port.{Port}
use Rattle.state.specs.declared.BarSlot.{BarSlot}
use Rattle.state.specs.declared.Strip.{Strip}
use Rattle.state.specs.declared.Panel.{Panel}
use Rattle.state.specs.declared.State.{State}
use Rattle.state.specs.State.{no_bar, no_strip}
use Rattle.state.specs.Fits.{PhaseFits, TextFits, PortFits, BarFits, StripFits, PanelFits, Fits}
use Rattle.record.specs.Layout.{height_at, edition_at, panel_at}
use Rattle.record.specs.Reading.{many_of, pair_at, inline_of, upload_of, phase_of, arguments_in, text_of, slot_of, strip_of, port_of, panel_of, decode_of}
use Rattle.record.specs.Writing.{low, high, many_bytes, gathering_bytes, data_bytes, upload_bytes, text_bytes, other_bytes, phase_bytes, port_bytes}
use Rattle.record.specs.Writing.{slot_bytes, strip_bytes, last_bytes, panel_bytes, encode_of}
use Rattle.record.proofs.Filling.{length-many}

-- each number of a list is a byte, from the front on
abbrev Each : List ℕ → Type 0
Each [] = Unit
Each (a ∷ l) = (a < 256) × Each l

each_bytes : (l : List ℕ) → Each l → Bytes l
each_bytes [] f k = lit< tt
each_bytes (a ∷ l) f zero = f.0
each_bytes (a ∷ l) f (suc k) = each_bytes l f.1 k

-- ---- reading

pub bytes_drop : (n : ℕ) (l : List ℕ) → Bytes l → Bytes (drop n l)
bytes_drop n l b k = rw (get_or-drop n l k 0) (b (n + k))

pair_fits : (l : List ℕ) (k : ℕ) → Bytes l → pair_at l k < 65536
pair_fits l k b = omega (arith, b k, b (k + 1))

choose : (t : Bool) (x y : Phase) → PhaseFits x → PhaseFits y → PhaseFits (cond t x y)
choose true x y f g = f
choose false x y f g = g

inline_fits : (l : List ℕ) → Bytes l → PhaseFits (inline_of l)
inline_fits l b = (b 0, b 1, b 2, b 3, pair_fits l 4 b)

upload_fits_lem : (l : List ℕ) → Bytes l → PhaseFits (upload_of l)
upload_fits_lem l b = (b 0, pair_fits l 1 b, pair_fits l 3 b, pair_fits l 5 b, b 8, pair_fits l 9 b)

phase_fits : (r : List ℕ) → Bytes r → PhaseFits (phase_of r)
unfolding phase_of
phase_fits r b =
    choose (eqb (at r 0) 1) Prefix _ tt
    (choose (eqb (at r 0) 2) (Gathering (at r 1) (at r 2)) _ (b 1, b 2)
    (choose (eqb (at r 0) 3) (inline_of (drop 9 r)) _ (inline_fits (drop 9 r) (bytes_drop 9 r b))
    (choose (eqb (at r 0) 4) (upload_of (drop 15 r)) Idle (upload_fits_lem (drop 15 r) (bytes_drop 15 r b)) tt)))

text_fits : (l : List ℕ) → Bytes l → TextFits (text_of l)
text_fits l b = record { font = pair_fits l 0 b; x = pair_fits l 2 b; y = b 4; left = b 5; top = b 6; char_space = b 7; line_space = b 8; scroll_row = b 9 }

arguments_fit : (l : List ℕ) → Bytes l → Bytes (arguments_in l)
arguments_fit l b = each_bytes (arguments_in l) (b 0, (b 1, (b 2, (b 3, (b 4, (b 5, tt))))))

slot_fits : (l : List ℕ) → Bytes l → BarFits (slot_of l)
slot_fits l b = record { kind = b 1; x1 = b 2; y1 = b 3; x2 = b 4; y2 = b 5; value = b 6 }

strip_fits : (l : List ℕ) → Bytes l → StripFits (strip_of l)
strip_fits l b = record { x1 = b 1; y1 = b 2; x2 = b 3; y2 = b 4 }

many_fit : {A : Type 0} (P : A → Type 0) (one : List ℕ → A) (size : ℕ) (d : A) → P d → ((l : List ℕ) → Bytes l → P (one l)) → (n : ℕ) (l : List ℕ) → Bytes l
    → (i : ℕ) → P (get_or (many_of one size l n) i d)
unfolding many_of
many_fit P one size d z f zero l b i = z
many_fit P one size d z f (suc n) l b zero = f l b
many_fit P one size d z f (suc n) l b (suc i) = many_fit P one size d z f n (drop size l) (bytes_drop size l b) i

port_fits : (r : List ℕ) → Bytes r → PortFits (port_of r)
unfolding port_of
port_fits r b =
    let d = bytes_drop 38 r b in
    let f = bytes_drop 41 r b in
    let n = bytes_drop 44 r b in
    record {
      phase = phase_fits r b;
      args = record { six = refl; bytes = arguments_fit (drop 3 r) (bytes_drop 3 r b) };
      text = text_fits (drop 26 r) (bytes_drop 26 r b);
      drawing = record { x = d 1; y = d 2 };
      flow = record { full = f 1; empty = f 2 };
      refusals = record { count = pair_fits (drop 44 r) 0 n; last = n 2 };
    }

panel_fits : (l : List ℕ) → Bytes l → PanelFits (panel_of l)
unfolding panel_of
panel_fits l b =
    let s = bytes_drop 152 l b in
    record {
      sixteen = length-many slot_of 7 l 16;
      bars = many_fit BarFits slot_of 7 no_bar (omega arith) slot_fits 16 l b;
      eight = length-many strip_of 5 (drop 112 l) 8;
      strips = many_fit StripFits strip_of 5 no_strip (omega arith) strip_fits 8 (drop 112 l) (bytes_drop 112 l b);
      serial = record { a = s 1; b = s 2 };
      contrast = b 155;
      minutes = bytes_drop 156 l b 1;
      used = pair_fits l 158 b;
    }

pub decoded_fits : (r : List ℕ) → Bytes r → Fits (decode_of r)
unfolding decode_of
decoded_fits r b = record { config = record { height = b height_at; edition = b edition_at }; port = port_fits r b; panel = panel_fits (drop panel_at r) (bytes_drop panel_at r b) }

-- ---- writing

each_append : (l m : List ℕ) → Each l → Each m → Each (l ++ m)
each_append [] m f g = g
each_append (a ∷ l) m f g = (f.0, each_append l m f.1 g)

bytes_each : (l : List ℕ) → Bytes l → Each l
bytes_each [] b = tt
bytes_each (a ∷ l) b = (b 0, bytes_each l (λ i. b (suc i)))

bit_fits : (m : Bool) → bit m < 256
bit_fits true = lit< tt
bit_fits false = lit< tt

zero_fits : 0 < 256
zero_fits = lit< tt

low_fits : (n : ℕ) → low n < 256
low_fits n = omega arith

high_fits : (n : ℕ) → n < 65536 → high n < 256
high_fits n h = omega arith

gathering_fits : (p : Phase) → PhaseFits p → Each (gathering_bytes p)
gathering_fits Idle f = (zero_fits, (zero_fits, (zero_fits, tt)))
gathering_fits Prefix f = (lit< tt, (zero_fits, (zero_fits, tt)))
gathering_fits (Gathering code got) f = (lit< tt, (f.0, (f.1, tt)))
gathering_fits (Inline x1 y1 x2 y2 came) f = (lit< tt, (zero_fits, (zero_fits, tt)))
gathering_fits (Upload sort number size stored waiting byte waited) f = (lit< tt, (zero_fits, (zero_fits, tt)))

six_zeros : Each (0 ∷ 0 ∷ 0 ∷ 0 ∷ 0 ∷ 0 ∷ [])
six_zeros = (zero_fits, (zero_fits, (zero_fits, (zero_fits, (zero_fits, (zero_fits, tt))))))

eleven_zeros : Each (0 ∷ 0 ∷ 0 ∷ 0 ∷ 0 ∷ 0 ∷ 0 ∷ 0 ∷ 0 ∷ 0 ∷ 0 ∷ [])
eleven_zeros = (zero_fits, (zero_fits, (zero_fits, (zero_fits, (zero_fits, six_zeros)))))

data_fits : (p : Phase) → PhaseFits p → Each (data_bytes p)
data_fits Idle f = six_zeros
data_fits Prefix f = six_zeros
data_fits (Gathering code got) f = six_zeros
data_fits (Inline x1 y1 x2 y2 came) f = (f.0, (f.1, (f.2, (f.3, (low_fits came, (high_fits came f.4, tt))))))
data_fits (Upload sort number size stored waiting byte waited) f = six_zeros

upload_written : (p : Phase) → PhaseFits p → Each (upload_bytes p)
upload_written Idle f = eleven_zeros
upload_written Prefix f = eleven_zeros
upload_written (Gathering code got) f = eleven_zeros
upload_written (Inline x1 y1 x2 y2 came) f = eleven_zeros
upload_written (Upload sort number size stored waiting byte waited) f =
    (f.0, (low_fits number, (high_fits number f.1, (low_fits size, (high_fits size f.2, (low_fits stored, (high_fits stored f.3, (bit_fits waiting, (f.4, (low_fits waited, (high_fits waited f.5, tt)))))))))))

slot_written : (s : BarSlot) → BarFits s → Each (slot_bytes s)
slot_written s f = (bit_fits s.on, (f.kind, (f.x1, (f.y1, (f.x2, (f.y2, (f.value, tt)))))))

strip_written : (s : Strip) → StripFits s → Each (strip_bytes s)
strip_written s f = (bit_fits s.on, (f.x1, (f.y1, (f.x2, (f.y2, tt)))))

many_written : {A : Type 0} (P : A → Type 0) (bytes : A → List ℕ) (d : A) → ((a : A) → P a → Each (bytes a)) → (l : List A) → ((i : ℕ) → P (get_or l i d)) → Each (many_bytes bytes l)
unfolding many_bytes
many_written P bytes d f [] g = tt
many_written P bytes d f (a ∷ l) g = each_append (bytes a) (many_bytes bytes l) (f a (g 0)) (many_written P bytes d f l (λ i. g (suc i)))

port_written : (p : Port) → PortFits p → Each (port_bytes p)
unfolding port_bytes phase_bytes
port_written p f =
    let t = f.text in
    let r = f.refusals in
    each_append (gathering_bytes p.line.phase ++ (p.line.args ++ (data_bytes p.line.phase ++ upload_bytes p.line.phase))) (text_bytes p.text ++ other_bytes p)
    (each_append (gathering_bytes p.line.phase) _ (gathering_fits p.line.phase f.phase)
    (each_append p.line.args _ (bytes_each p.line.args f.args.bytes)
    (each_append (data_bytes p.line.phase) _ (data_fits p.line.phase f.phase) (upload_written p.line.phase f.phase))))
    (each_append (text_bytes p.text) (other_bytes p)
    (low_fits p.text.font, (high_fits p.text.font t.font, (low_fits p.text.x, (high_fits p.text.x t.x, (t.y, (t.left, (t.top, (t.char_space, (t.line_space, (t.scroll_row, (bit_fits p.text.wrap, (bit_fits p.text.scroll, tt))))))))))))
    (bit_fits p.drawing.colour.black, (f.drawing.x, (f.drawing.y, (bit_fits p.flow.on, (f.flow.full, (f.flow.empty, (low_fits p.refusals.count, (high_fits p.refusals.count r.count, (r.last, tt))))))))))

panel_written : (q : Panel) → PanelFits q → Each (panel_bytes q)
unfolding panel_bytes
panel_written q f =
    each_append (many_bytes slot_bytes q.bars) _ (many_written BarFits slot_bytes no_bar slot_written q.bars f.bars)
    (each_append (many_bytes strip_bytes q.strips) (last_bytes q) (many_written StripFits strip_bytes no_strip strip_written q.strips f.strips)
    (bit_fits q.serial.on, (f.serial.a, (f.serial.b, (f.contrast, (bit_fits q.backlight.on, (f.minutes, (low_fits q.used, (high_fits q.used f.used, tt)))))))))

pub encoded_bytes : (s : State) → Fits s → Bytes (encode_of s)
unfolding encode_of
encoded_bytes s f =
    let c = f.config in
    each_bytes (port_bytes s.port ++ (s.config.height ∷ s.config.edition ∷ panel_bytes s.panel))
    (each_append (port_bytes s.port) (s.config.height ∷ s.config.edition ∷ panel_bytes s.panel) (port_written s.port f.port) (c.height, (c.edition, panel_written s.panel f.panel)))
