-- The ledger (the rules paper's book): for each bar its type, corners and value, and whether its rectangle is known to show them (the paper's sure).
-- Assumes nothing.
use Rattle.std.specs.Prelude.{Bool, false, cond, not, ◌&&◌, ◌||◌, List, [], ◌∷◌, ℕ, eqb}
use Rattle.pixels.specs.Framebuffer.{Region}
use Rattle.pixels.specs.Regions.{touches}
use Rattle.bar_graph.specs.declared.Bar.{Bar}
use Rattle.bar_graph.specs.Bars.{rectangle_of, written_bar}

-- what is seen of a machine: its framebuffer, and bar number i
pub record View : Type 0 where
  pub framebuffer : List ℕ
  pub bar : ℕ → Bar

-- what an input means for the bars
pub data Event : Type 0 where
  quiet : Event  -- a refusal, or what paints nothing
  set_up : ℕ → Bar → Event  -- bar n is this one from now on
  wrote : ℕ → ℕ → Event  -- bar n was written with this byte
  painted : Region → Event  -- any other footprint

pub record Entry : Type 0 where
  pub bar : Bar
  pub known : Bool

abbrev pub entry : Bar → Bool → Entry
entry b s = record { bar = b; known = s }

abbrev pub Ledger : Type 0
Ledger = ℕ → Entry

-- has a footprint a pixel in the rectangle of the bar?
abbrev pub reaches : Region → Bar → Bool
reaches f b = touches f b.x1 b.y1 b.x2 b.y2

-- another footprint
unfoldable pub touched : Region → Entry → Entry
touched f e = entry e.bar (e.known && not (reaches f e.bar))

-- its own write; with 0 the rectangle is known
unfoldable pub written : ℕ → Entry → Entry
written v e = entry (written_bar e.bar v) (eqb v 0 || e.known)

unfoldable pub recorded : Event → Ledger → Ledger
recorded quiet k i = k i
recorded (set_up n b) k i = cond (eqb i n) (entry b false) (k i)
recorded (wrote n v) k i = cond (eqb i n) (written v (k i)) (touched (rectangle_of (k n).bar) (k i))
recorded (painted f) k i = touched f (k i)

-- at the start none is known
abbrev pub opened : View → Ledger
opened v i = entry (v.bar i) false

-- the footprint of an event
unfoldable pub footprint : Event → View → Region
footprint quiet v x y = false
footprint (set_up n b) v x y = false
footprint (wrote n a) v x y = rectangle_of (v.bar n) x y
footprint (painted f) v x y = f x y

-- a machine along a list of inputs, and the ledger kept beside it
unfoldable pub along : {C A : Type 0} → (C → A → C) → C → List A → C
along step c [] = c
along step c (a ∷ l) = along step (step c a) l

unfoldable pub ledger_along : {C A : Type 0} → (C → A → C) → (C → A → Event) → Ledger → C → List A → Ledger
ledger_along step event k c [] = k
ledger_along step event k c (a ∷ l) = ledger_along step event (recorded (event c a) k) (step c a) l
