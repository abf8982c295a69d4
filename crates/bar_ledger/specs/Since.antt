-- The request's own words: a bar written with 0 since its last set-up, whose rectangle nothing but its own writes has touched since.
-- Assumes nothing.
use Rattle.std.specs.Prelude.{◌≡◌, ◌≢◌, false, List, [], ◌∷◌, ◌++◌, ℕ}
use Rattle.bar_graph.specs.Bars.{rectangle_of}
use Rattle.bar_ledger.specs.Ledger.{View, Event, quiet, set_up, wrote, painted, reaches, along}

-- what leaves bar i alone: any set-up but its own, its own writes, and every other footprint that has no pixel in its rectangle
abbrev pub Leaves : Event → View → ℕ → Type 0
Leaves quiet v i = Unit {0}
Leaves (set_up n b) v i = i ≢ n
Leaves (wrote n a) v i = i ≢ n → reaches (rectangle_of (v.bar n)) (v.bar i) ≡ false
Leaves (painted f) v i = reaches f (v.bar i) ≡ false

module _ {C A : Type 0} (view : C → View) (step : C → A → C) (event : C → A → Event) where
  -- so does every input of a list
  abbrev pub LeavesAll : C → List A → ℕ → Type 0
  LeavesAll c [] i = Unit {0}
  LeavesAll c (a ∷ l) i = Leaves (event c a) (view c) i × LeavesAll (step c a) l i

  -- in the list l from machine c: some inputs, then a write of 0 to bar i, then inputs that leave it alone
  pub record SinceZero (c : C) (l : List A) (i : ℕ) : Type 0 where
    pub before : List A
    pub zero_write : A
    pub since : List A
    pub whole : l ≡ before ++ (zero_write ∷ since)
    pub writes : event (along step c before) zero_write ≡ wrote i 0
    pub leaves : LeavesAll (step (along step c before) zero_write) since i
