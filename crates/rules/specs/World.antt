-- What an input finds and leaves: the framebuffer (the rules paper's glass), the store and the state.
-- Assumes nothing.
use Rattle.std.specs.Prelude.{List, [], Bool, cond, ℕ, get_or}
use Rattle.state.specs.declared.Port.{Port}
use Rattle.state.specs.declared.Panel.{Panel}
use Rattle.state.specs.declared.Text.{Text}
use Rattle.state.specs.declared.State.{State}
use Rattle.state.specs.State.{state, with_text, with_used as panelUsing}

pub record World : Type 0 where
  pub framebuffer : List ℕ
  pub store : List ℕ
  pub state : State

abbrev pub world : List ℕ → List ℕ → State → World
world g s t = record { framebuffer = g; store = s; state = t }

-- the framebuffer's rows and the edition of the upload protocol, as the board chose them at start
abbrev pub height : World → ℕ
height w = w.state.config.height

abbrev pub edition : World → ℕ
edition w = w.state.config.edition

abbrev pub port : World → Port
port w = w.state.port

abbrev pub panel : World → Panel
panel w = w.state.panel

abbrev pub with_framebuffer : World → List ℕ → World
with_framebuffer w g = world g w.store w.state

abbrev pub with_store : World → List ℕ → World
with_store w s = world w.framebuffer s w.state

abbrev pub with_port : World → Port → World
with_port w p = world w.framebuffer w.store (state w.state.config p (panel w))

abbrev pub with_panel : World → Panel → World
with_panel w q = world w.framebuffer w.store (state w.state.config (port w) q)

abbrev pub put_text : World → Text → World
put_text w t = with_port w (with_text (port w) t)

-- the room of the file area that the stored files use, as the state keeps it
abbrev pub used : World → ℕ
used w = (panel w).used

abbrev pub with_used : World → ℕ → World
with_used w u = with_panel w (panelUsing (panel w) u)

-- WHAT A COMMAND, A CHARACTER OR A DATA BYTE COMES TO, with the bytes that it sends: the next world, or a refusal's number and no world
pub data Outcome : Type 0 where
  done : World → List ℕ → Outcome
  refused : ℕ → List ℕ → Outcome

-- with nothing sent
abbrev pub quietly : World → Outcome
quietly w = done w []

-- one reason to refuse, before what follows
abbrev pub refuse_if : Bool → ℕ → Outcome → Outcome
refuse_if bad n rest = cond bad (refused n []) rest

-- argument number i, from 0
abbrev pub arg : List ℕ → ℕ → ℕ
arg a i = get_or a i 0
