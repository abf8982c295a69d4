-- The rules of these commands, each way by itself.
-- Assumes nothing.
use mathlib.Core.Path.{◌≡◌, ◌∙◌, refl, sym, subst}
use mathlib.Core.Bool.{Bool, true, false, not}
use mathlib.Core.List.{List, []}
use Prim.Native.Nat.{ℕ, ◌+◌, ◌<◌, ◌≤◌}
use lib.ListN.{take, drop}
use borrow.Author.Tests.{lt-ltb, le-ltb}
use Rattle.std.specs.Prelude.{Option, Some, None, Result, Ok, Err, IsErrAnd, IfErr}
use Rattle.refusals.specs.declared.Refusal.{Refusal}
use Rattle.directory.specs.declared.Location.{Location}
use Rattle.directory.specs.Directory.{max_number, find_of}
use Rattle.fonts.specs.Bitmaps.{bitmap_width, bitmap_height, is_bitmap}
use Rattle.bitmap.specs.Bitmaps.{packed_box, inline_byte}
use Rattle.state.specs.declared.Phase.TheVariants.{Idle, Inline}
use Rattle.state.specs.declared.State.{State}
use Rattle.state.specs.Soundness.{inline_bytes}
use Rattle.rules.specs.World.{World, world, quietly, refused}
use Rattle.rules.specs.Drawing.{ordered}
use Rattle.rules.specs.Pictures.{in_phase, bitmap_in, bitmap_at, show_bitmap, begin_inline, inline_data}

module _ (w : World) (f : List ℕ) (x y : ℕ) where
  pub bitmap_23 : is_bitmap f ≡ false → bitmap_in w f x y ≡ refused 23 []
  unfolding bitmap_in
  bitmap_23 e = rw e

pub bitmap_done : (g s : List ℕ) (st : State) (f : List ℕ) (x y : ℕ) (g' bits : List ℕ) (v h : ℕ) → is_bitmap f ≡ true → bits ≡ drop 2 f → v ≡ bitmap_width f → h ≡ bitmap_height f
    → g' ≡ packed_box x y v h bits g → bitmap_in (world g s st) f x y ≡ quietly (world g' s st)
unfolding bitmap_in
bitmap_done g s st f x y g' bits v h e d dv dh o = rw (e, o, d, dv, dh)

-- ---- a saved bitmap

pub refused_as : {A : Type 0} (r : Result A Refusal) (e d : Refusal) (P : Refusal → Type 0) → IsErrAnd r (λ f. f ≡ e) → e ≡ d → P d → IfErr r P
refused_as (Ok x) e d P g h p = tt
refused_as (Err f) e d P g h p = subst P (sym (g ∙ h)) p

-- in a world whose store is s

module _ (w : World) (s : List ℕ) (n x y : ℕ) (same : w.store ≡ s) where
  pub show_19 : max_number < n → show_bitmap w n x y ≡ refused 19 []
  unfolding show_bitmap
  show_19 m = rw (lt-ltb max_number n m)

  module _ (f : Option Location) (m : n ≤ max_number) (e : f ≡ find_of s 2 n) where
    pub show_22 : f ≡ None → show_bitmap w n x y ≡ refused 22 []
    unfolding show_bitmap bitmap_at
    show_22 h = rw (le-ltb max_number n m, same, ← e, h)

    pub show_found : (o : Location) (l : List ℕ) → f ≡ Some o → l ≡ take o.size (drop o.start s) → show_bitmap w n x y ≡ bitmap_in w l x y
    unfolding show_bitmap bitmap_at
    show_found o l h d = rw (le-ltb max_number n m, same, ← e, h, d)

-- ---- data in line

pub inline_18 : (w : World) (x1 y1 x2 y2 : ℕ) (t : Bool) → t ≡ ordered x1 y1 x2 y2 → not t ≡ true → begin_inline w x1 y1 x2 y2 ≡ refused 18 []
unfolding begin_inline
inline_18 w x1 y1 x2 y2 t e f = rw (← e, f)

pub inline_done : (g s : List ℕ) (st : State) (x1 y1 x2 y2 : ℕ) (t : Bool) → t ≡ ordered x1 y1 x2 y2 → not t ≡ false
    → begin_inline (world g s st) x1 y1 x2 y2 ≡ quietly (in_phase (world g s st) (Inline x1 y1 x2 y2 0))
unfolding begin_inline
inline_done g s st x1 y1 x2 y2 t e f = rw (← e, f)

module _ (g s : List ℕ) (st : State) (x1 y1 x2 y2 d b : ℕ) (g' : List ℕ) (n : ℕ) (painted : g' ≡ inline_byte x1 y1 x2 y2 d b g) (all : n ≡ inline_bytes x1 y1 x2 y2) where
  pub data_more : d + 1 < n → inline_data (world g s st) x1 y1 x2 y2 d b ≡ quietly (in_phase (world g' s st) (Inline x1 y1 x2 y2 (d + 1)))
  unfolding inline_data
  data_more l = rw (← all, lt-ltb (d + 1) n l, painted)

  pub data_last : n ≤ d + 1 → inline_data (world g s st) x1 y1 x2 y2 d b ≡ quietly (in_phase (world g' s st) Idle)
  unfolding inline_data
  data_last l = rw (← all, le-ltb (d + 1) n l, painted)
