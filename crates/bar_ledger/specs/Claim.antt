-- What is claimed of bars: one claim about a whole list of inputs, to any machine.
-- Assumes nothing.
use Rattle.std.specs.Prelude.{◌≡◌, ◌≢◌, true, List, ◌∷◌, ℕ, length, take, drop}
use Rattle.pixels.specs.Framebuffer.{On, pixel}
use Rattle.pixels.specs.Footprints.{SameOutside}
use Rattle.bar_graph.specs.Bars.{held_to, full_picture, Shows}
use Rattle.bar_ledger.specs.Ledger.{View, Event, wrote, Ledger, opened, footprint, along, ledger_along}

-- the rectangle of each known bar shows the full picture of its value
pub record Shown (v : View) (k : Ledger) : Type 0 where
  pub bars : (i : ℕ) → (k i).known ≡ true → Shows (k i).bar (k i).bar.value v.framebuffer

-- a write of another value than 0, to any bar, changes only pixels in which the full pictures of old and new value differ
pub record Thrifty (e : Event) (k : Ledger) (v w : View) : Type 0 where
  pub pixels : (n a x y : ℕ) → e ≡ wrote n a → a ≢ 0 → On (length v.framebuffer) x y → pixel w.framebuffer x y ≢ pixel v.framebuffer x y
      → full_picture (k n).bar (k n).bar.value x y ≢ full_picture (k n).bar (held_to (k n).bar a) x y

module _ {C A : Type 0} (view : C → View) (step : C → A → C) (event : C → A → Event) where
  -- the machine and the ledger after the first n inputs
  abbrev pub machine_at : C → List A → ℕ → C
  machine_at c l n = along step c (take n l)

  abbrev pub ledger_at : C → List A → ℕ → Ledger
  ledger_at c l n = ledger_along step event (opened (view c)) c (take n l)

  -- THE CLAIM, after every part of the list from its start, and at every step of it
  pub record Agrees (c : C) (l : List A) : Type 0 where
    pub same : (n i : ℕ) → (ledger_at c l n i).bar ≡ (view (machine_at c l n)).bar i
    pub shown : (n : ℕ) → Shown (view (machine_at c l n)) (ledger_at c l n)
    pub thrifty : (n : ℕ) (a : A) (r : List A) → drop n l ≡ a ∷ r
        → Thrifty (event (machine_at c l n) a) (ledger_at c l n) (view (machine_at c l n)) (view (step (machine_at c l n) a))
    pub inside : (n : ℕ) (a : A) (r : List A) → drop n l ≡ a ∷ r
        → SameOutside (footprint (event (machine_at c l n) a) (view (machine_at c l n))) (view (machine_at c l n)).framebuffer (view (step (machine_at c l n) a)).framebuffer
