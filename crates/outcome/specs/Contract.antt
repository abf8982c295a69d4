-- What a command function promises: whatever was chosen at start that it is not told and the memory that it is not lent, they stay, and the port, the bytes sent
-- and the memory that it is lent become what its rule says.
-- Assumes nothing.
use Rattle.std.specs.Prelude.{◌≡◌, ℕ, List}
use Rattle.state.specs.declared.Port.{Port}
use Rattle.state.specs.declared.Config.{Config}
use Rattle.state.specs.State.{config, state}
use Rattle.record.specs.Reading.{panel_of}
use Rattle.panel.specs.Revised.{revised}
use Rattle.rules.specs.World.{World, world, port, panel, Outcome as Ruled}
use Rattle.rules.specs.Step.{after, sent}
use Rattle.outcome.specs.declared.Outcome.{Outcome}
use Rattle.outcome.specs.Outcome.{sent_by}

-- ---- what is lent

-- a function is not lent a memory, or it is lent one as it stands and leaves it as it stands then
pub data Loan : Type 0 where
  unlent : Loan
  lent : List ℕ → List ℕ → Loan

-- with x in a memory that is not lent
abbrev pub found : Loan → List ℕ → List ℕ
found unlent x = x
found (lent a b) x = a

abbrev pub left : Loan → List ℕ → List ℕ
left unlent x = x
left (lent a b) x = b

-- of what was chosen at start a function is told the height, the edition or both, or it has no use for them
pub data Told : Type 0 where
  untold : Told
  told : ℕ → Told
  told_edition : ℕ → Told
  told_both : Config → Told

-- with c for what it is not told
abbrev pub config_by : Told → Config → Config
config_by untold c = c
config_by (told h) c = config h c.edition
config_by (told_edition e) c = config c.height e
config_by (told_both d) c = d

-- ---- what comes of it

-- what was chosen, framebuffer, store, the panel's bytes, and the port
pub record Held : Type 0 where
  pub config : Config
  pub framebuffer : List ℕ
  pub store : List ℕ
  pub panel_bytes : List ℕ
  pub port : Port

abbrev pub held : Config → List ℕ → List ℕ → List ℕ → Port → Held
held c g s p t = record { config = c; framebuffer = g; store = s; panel_bytes = p; port = t }

abbrev pub world_of : Held → World
world_of m = world m.framebuffer m.store (state m.config m.port (panel_of m.panel_bytes))

-- a world written over the panel's bytes
abbrev pub held_by : List ℕ → World → Held
held_by p w = held w.state.config w.framebuffer w.store (revised p (panel w)) (port w)

-- by a rule's outcome from m to n, sending l
pub record Came (m : Held) (o : Ruled) (n : Held) (l : List ℕ) : Type 0 where
  pub next : n ≡ held_by m.panel_bytes (after (world_of m) o)
  pub sends : l ≡ sent o

-- THE PROMISE of a function that is told what was chosen by t, is handed a port and is lent the framebuffer by G, the store by S and the panel's bytes by P
pub record Obeys (t : Told) (rule : World → Ruled) (pt : Port) (G S P : Loan) (r : Outcome) : Type 0 where
  pub came : (c : Config) (g s p : List ℕ)
      → Came (held (config_by t c) (found G g) (found S s) (found P p) pt) (rule (world_of (held (config_by t c) (found G g) (found S s) (found P p) pt)))
      (held (config_by t c) (left G g) (left S s) (left P p) r.port) (sent_by r.reply)
