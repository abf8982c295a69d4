-- The bytes of a state, part by part in the order of the record. Places that the present phase does not use are 0.
-- Assumes nothing.
use Rattle.std.specs.Prelude.{List, [], ◌∷◌, ◌++◌, ℕ, ◌+◌, ◌/◌, ◌%◌, set}
use Rattle.queue.specs.Record.{bit}
use Rattle.state.specs.declared.Phase.{Phase}
use Rattle.state.specs.declared.Phase.TheVariants.{Idle, Prefix, Gathering, Inline, Upload}
use Rattle.state.specs.declared.Text.{Text}
use Rattle.state.specs.declared.Port.{Port}
use Rattle.state.specs.declared.BarSlot.{BarSlot}
use Rattle.state.specs.declared.Strip.{Strip}
use Rattle.state.specs.declared.Panel.{Panel}
use Rattle.state.specs.declared.State.{State}

-- a number of two bytes, low byte first
abbrev pub low : ℕ → ℕ
low n = n % 256

abbrev pub high : ℕ → ℕ
high n = n / 256

unfoldable pub many_bytes : {A : Type 0} → (A → List ℕ) → List A → List ℕ
many_bytes one [] = []
many_bytes one (a ∷ l) = one a ++ many_bytes one l

-- ---- one line

abbrev pub gathering_bytes : Phase → List ℕ
gathering_bytes Idle = 0 ∷ 0 ∷ 0 ∷ []
gathering_bytes Prefix = 1 ∷ 0 ∷ 0 ∷ []
gathering_bytes (Gathering code got) = 2 ∷ code ∷ got ∷ []
gathering_bytes (Inline x1 y1 x2 y2 came) = 3 ∷ 0 ∷ 0 ∷ []
gathering_bytes (Upload sort number size stored waiting byte waited) = 4 ∷ 0 ∷ 0 ∷ []

abbrev pub data_bytes : Phase → List ℕ
data_bytes Idle = 0 ∷ 0 ∷ 0 ∷ 0 ∷ 0 ∷ 0 ∷ []
data_bytes Prefix = 0 ∷ 0 ∷ 0 ∷ 0 ∷ 0 ∷ 0 ∷ []
data_bytes (Gathering code got) = 0 ∷ 0 ∷ 0 ∷ 0 ∷ 0 ∷ 0 ∷ []
data_bytes (Inline x1 y1 x2 y2 came) = x1 ∷ y1 ∷ x2 ∷ y2 ∷ low came ∷ high came ∷ []
data_bytes (Upload sort number size stored waiting byte waited) = 0 ∷ 0 ∷ 0 ∷ 0 ∷ 0 ∷ 0 ∷ []

abbrev pub upload_bytes : Phase → List ℕ
upload_bytes Idle = 0 ∷ 0 ∷ 0 ∷ 0 ∷ 0 ∷ 0 ∷ 0 ∷ 0 ∷ 0 ∷ 0 ∷ 0 ∷ []
upload_bytes Prefix = 0 ∷ 0 ∷ 0 ∷ 0 ∷ 0 ∷ 0 ∷ 0 ∷ 0 ∷ 0 ∷ 0 ∷ 0 ∷ []
upload_bytes (Gathering code got) = 0 ∷ 0 ∷ 0 ∷ 0 ∷ 0 ∷ 0 ∷ 0 ∷ 0 ∷ 0 ∷ 0 ∷ 0 ∷ []
upload_bytes (Inline x1 y1 x2 y2 came) = 0 ∷ 0 ∷ 0 ∷ 0 ∷ 0 ∷ 0 ∷ 0 ∷ 0 ∷ 0 ∷ 0 ∷ 0 ∷ []
upload_bytes (Upload sort number size stored waiting byte waited) =
    sort ∷ low number ∷ high number ∷ low size ∷ high size ∷ low stored ∷ high stored ∷ bit waiting ∷ byte ∷ low waited ∷ high waited ∷ []

abbrev pub text_bytes : Text → List ℕ
text_bytes t =
    low t.font ∷ high t.font ∷ low t.x ∷ high t.x ∷ t.y ∷ t.left ∷ t.top ∷ t.char_space ∷ t.line_space ∷ t.scroll_row ∷ bit t.wrap ∷ bit t.scroll ∷ []

-- drawing, flow, refusals
abbrev pub other_bytes : Port → List ℕ
other_bytes p =
    bit p.drawing.colour.black ∷ p.drawing.x ∷ p.drawing.y
    ∷ bit p.flow.on ∷ p.flow.full ∷ p.flow.empty
    ∷ low p.refusals.count ∷ high p.refusals.count ∷ p.refusals.last ∷ []

-- the phase with the arguments
unfoldable pub phase_bytes : Port → List ℕ
phase_bytes p = gathering_bytes p.line.phase ++ (p.line.args ++ (data_bytes p.line.phase ++ upload_bytes p.line.phase))

unfoldable pub port_bytes : Port → List ℕ
port_bytes p = phase_bytes p ++ (text_bytes p.text ++ other_bytes p)

-- ---- the display

abbrev pub slot_bytes : BarSlot → List ℕ
slot_bytes s = bit s.on ∷ s.bar.kind ∷ s.bar.x1 ∷ s.bar.y1 ∷ s.bar.x2 ∷ s.bar.y2 ∷ s.bar.value ∷ []

abbrev pub strip_bytes : Strip → List ℕ
strip_bytes s = bit s.on ∷ s.x1 ∷ s.y1 ∷ s.x2 ∷ s.y2 ∷ []

-- serial, contrast, backlight, the used room
abbrev pub last_bytes : Panel → List ℕ
last_bytes q = bit q.serial.on ∷ q.serial.a ∷ q.serial.b ∷ q.contrast ∷ bit q.backlight.on ∷ q.backlight.minutes ∷ low q.used ∷ high q.used ∷ []

unfoldable pub panel_bytes : Panel → List ℕ
panel_bytes q = many_bytes slot_bytes q.bars ++ (many_bytes strip_bytes q.strips ++ last_bytes q)

-- ---- the whole

unfoldable pub encode_of : State → List ℕ
encode_of s = port_bytes s.port ++ (s.config.height ∷ s.config.edition ∷ panel_bytes s.panel)

-- ---- l written over g from index k on, as far as g goes

unfoldable pub over : List ℕ → ℕ → List ℕ → List ℕ
over [] k g = g
over (b ∷ l) k g = over l (k + 1) (set g k b)
