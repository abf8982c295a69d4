-- Footprints: no pixel outside one changes. One lemma for every painter, since every painter is a `put`.
-- Assumes nothing.
use mathlib.Core.Path.{◌≡◌, refl, sym, ap, ◌∙◌}
use mathlib.Core.Bool.{Bool, true, false, cond, ◌&&◌, true≢false}
use mathlib.Core.List.{List}
use Prim.Native.Nat.{ℕ}
use lib.ListN.{length}
use native.Mathlib.Omega.{arith}
use native.Mathlib.Decide.{dec_lt}
use lib.Dec.{ltb}
use borrow.Author.Tests.{le-ltb}
use Rattle.pixels.specs.Framebuffer.{Region, Picture, cell, black, put, width}
use Rattle.pixels.specs.Regions.{everywhere}
use Rattle.pixels.specs.Footprints.{SameOutside}
use Rattle.pixels.proofs.Painting.{length-repaint, pixel_put}
use Rattle.pixels.proofs.Pictures.{pixel_behind}

pub outside_none : (f : Region) (g : List ℕ) → SameOutside f g g
outside_none f g = record { long = refl; same = λ x y on e. refl }

-- one painter after another
pub outside_then : (f : Region) (g h k : List ℕ) → SameOutside f g h → SameOutside f h k → SameOutside f g k
outside_then f g h k a b =
    record { long = b.long ∙ a.long; same = λ x y on e. b.same x y (rw a.long on) e ∙ a.same x y on e }

-- what is put into a region that lies in the footprint
pub outside_in : (f s : Region) (p : Picture) (g : List ℕ) → ((x y : ℕ) → f x y ≡ false → s x y ≡ false) → SameOutside f g (put s p g)
outside_in f s p g h =
    record { long = length-repaint (λ x y o. cond (s x y) (p x y) o) g; same = λ x y on e. pixel_put s p g x y on ∙ rw (h x y e) }

-- THE LEMMA: a painter's own region is a footprint
pub outside_put : (s : Region) (p : Picture) (g : List ℕ) → SameOutside s g (put s p g)
outside_put s p g = outside_in s s p g (λ x y e. e)

-- the whole framebuffer is a footprint of anything that keeps its length
pub outside_all : (g h : List ℕ) → length h ≡ length g → SameOutside everywhere g h
outside_all g h l = record { long = l; same = λ x y on e. absurd (true≢false e) }

-- a pixel outside is the same wherever it is asked for
pub black_outside : {f : Region} {g h : List ℕ} → SameOutside f g h → (x y : ℕ) → f x y ≡ false → black h x y ≡ black g x y
unfolding black
black_outside {f} {g} {h} s x y e =
    elim (dec_lt x width) [
      | yes l ↦ ap (λ (b : Bool). ltb x width && b) (elim (dec_lt (cell x y) (length g)) [
        | yes m ↦ s.same x y (l, m) e
        | no m ↦ pixel_behind h x y (omega (arith, s.long)) ∙ sym (pixel_behind g x y (omega arith))
      ])
      | no l ↦ rw (le-ltb x width (omega arith))
    ]
