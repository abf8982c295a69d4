-- When a state is sound: the rules' list and nothing else. That at most one of gathering, data in line and an upload is under way is the type of the
-- phase. What a record needs beside it stands in Canonical and, for the flow thresholds, at the end.
-- Assumes nothing.
use Rattle.std.specs.Prelude.{List, [], ◌∷◌, Bool, true, not, ◌&&◌, ◌||◌, ℕ, ◌+◌, ◌-◌, ◌*◌, leb, ltb}
use Rattle.pixels.specs.Framebuffer.{width}
use Rattle.canvas.specs.Sizes.{is_height}
use Rattle.bar_graph.specs.declared.Bar.{Bar}
use Rattle.bar_graph.specs.Bars.{length_of}
use Rattle.bitmap.specs.Bitmaps.{row_bytes}
use Rattle.queue.specs.declared.Flow.{Flow}
use Rattle.state.specs.declared.Phase.{Phase}
use Rattle.state.specs.declared.Phase.TheVariants.{Idle, Prefix, Gathering, Inline, Upload}
use Rattle.state.specs.declared.Text.{Text}
use Rattle.state.specs.declared.Port.{Port}
use Rattle.state.specs.declared.BarSlot.{BarSlot}
use Rattle.state.specs.declared.Strip.{Strip}
use Rattle.state.specs.declared.Panel.{Panel}
use Rattle.state.specs.declared.Config.{Config}
use Rattle.state.specs.declared.State.{State}
use Rattle.state.specs.Editions.{is_edition, patience}
use Rattle.state.specs.Commands.{command_of, arguments_of}

-- a test of every element
unfoldable pub every : {A : Type 0} → (A → Bool) → List A → Bool
every test [] = true
every test (a ∷ l) = test a && every test l

-- the bytes of data in line for a rectangle
abbrev pub inline_bytes : ℕ → ℕ → ℕ → ℕ → ℕ
inline_bytes x1 y1 x2 y2 = row_bytes x1 x2 * (y2 - y1 + 1)

-- gathering has fewer bytes than its command needs in edition e
abbrev pub sound_gathering : ℕ → ℕ → ℕ → Bool
sound_gathering e code got = ltb got (arguments_of e (command_of code))

-- data in line has ordered corners and bytes still to come
unfoldable pub sound_inline : ℕ → ℕ → ℕ → ℕ → ℕ → Bool
sound_inline x1 y1 x2 y2 came = leb x1 x2 && leb y1 y2 && ltb came (inline_bytes x1 y1 x2 y2)

-- an upload has stored fewer bytes than its size, and has not waited too long
unfoldable pub sound_upload : ℕ → ℕ → ℕ → Bool
sound_upload size stored waited = ltb stored size && ltb waited patience

unfoldable pub sound_phase : ℕ → Phase → Bool
sound_phase e Idle = true
sound_phase e Prefix = true
sound_phase e (Gathering code got) = sound_gathering e code got
sound_phase e (Inline x1 y1 x2 y2 came) = sound_inline x1 y1 x2 y2 came
sound_phase e (Upload sort number size stored waiting byte waited) = sound_upload size stored waited

-- the text point
unfoldable pub sound_text : Text → Bool
sound_text t = leb t.x 495 && leb t.y 255

unfoldable pub sound_port : ℕ → Port → Bool
sound_port e p = sound_phase e p.line.phase && sound_text p.text

-- on a framebuffer of h rows, with x1 < x2 and y1 < y2
abbrev pub sound_corners : ℕ → ℕ → ℕ → ℕ → ℕ → Bool
sound_corners h x1 y1 x2 y2 = ltb x1 x2 && ltb y1 y2 && ltb x2 width && ltb y2 h

-- on the framebuffer, its value at most its length, its type 0 to 3
unfoldable pub sound_set_up : ℕ → Bar → Bool
sound_set_up h b = sound_corners h b.x1 b.y1 b.x2 b.y2 && leb b.value (length_of b) && ltb b.kind 4

unfoldable pub sound_bar : ℕ → BarSlot → Bool
sound_bar h s = not s.on || sound_set_up h s.bar

unfoldable pub sound_strip : ℕ → Strip → Bool
sound_strip h s = not s.on || sound_corners h s.x1 s.y1 s.x2 s.y2

unfoldable pub sound_panel : ℕ → Panel → Bool
sound_panel h q = every (sound_bar h) q.bars && every (sound_strip h) q.strips

-- a height and an edition that there are
unfoldable pub sound_config : Config → Bool
sound_config c = is_height c.height && is_edition c.edition

-- and all else by them
unfoldable pub sound_state : State → Bool
sound_state s = sound_config s.config && sound_port s.config.edition s.port && sound_panel s.config.height s.panel

-- ---- beside soundness

-- flow thresholds that a record may say: their sum is below 80
abbrev pub thresholds_fit : Flow → Bool
thresholds_fit f = ltb (f.full + f.empty) 80
