-- Bars of a bar graph: the rectangle of one, its length, its full picture, and what a write paints.
-- Every definition is total. Of kinds 0 to 3 and corners in order it says what the rules say (proofs/FullPictures has them one by one);
-- a kind above 3 counts as 3, and corners out of order leave a rectangle without a pixel and, on the bar's own axis, the length 0.
-- Assumes nothing.
use Rattle.std.specs.Prelude.{◌≡◌, Bool, true, false, cond, not, ◌&&◌, ◌||◌, List, ℕ, ◌+◌, ◌-◌, min, eqb, ltb, length}
use Rattle.pixels.specs.Framebuffer.{Region, Picture, On, pixel, fill}
use Rattle.pixels.specs.Regions.{within, rectangle}
use Rattle.bar_graph.specs.declared.Bar.{Bar}

-- kind 0 grows from the bottom, 1 from the left, 2 from the top, 3 from the right: by rows or by columns,
abbrev pub vertical : ℕ → Bool
vertical kind = eqb kind 0 || eqb kind 2

-- and from the far side, where rows or columns end, or from the near one
abbrev pub from_far : ℕ → Bool
from_far kind = not (eqb kind 1 || eqb kind 2)

-- both corners are in it
abbrev pub rectangle_of : Bar → Region
rectangle_of b = rectangle b.x1 b.y1 b.x2 b.y2

-- on one axis: how many numbers lo to hi are, both counted
abbrev pub count : ℕ → ℕ → ℕ
count lo hi = hi + 1 - lo

-- and how far number n lies from the side that the bar grows from
abbrev pub depth_on : Bool → ℕ → ℕ → ℕ → ℕ
depth_on far lo hi n = cond far (hi - n) (n - lo)

-- rows or columns between a pixel and that side
unfoldable pub depth : Bar → ℕ → ℕ → ℕ
depth b x y = cond (vertical b.kind) (depth_on (from_far b.kind) b.y1 b.y2 y) (depth_on (from_far b.kind) b.x1 b.x2 x)

unfoldable pub length_of : Bar → ℕ
length_of b = cond (vertical b.kind) (count b.y1 b.y2) (count b.x1 b.x2)

-- a value above the length is held to it
unfoldable pub held_to : Bar → ℕ → ℕ
held_to b v = min v (length_of b)

-- THE FULL PICTURE of a value: black in that many rows or columns next to the side, white in the rest of the rectangle
unfoldable pub full_picture : Bar → ℕ → Picture
full_picture b v x y = rectangle_of b x y && ltb (depth b x y) v

-- its rectangle shows it
pub record Shows (b : Bar) (v : ℕ) (g : List ℕ) : Type 0 where
  pub pixels : (x y : ℕ) → On (length g) x y → rectangle_of b x y ≡ true → pixel g x y ≡ full_picture b v x y

-- the rows or columns from depth a up to, and not with, depth e
unfoldable pub stripe : Bar → ℕ → ℕ → Region
stripe b a e x y = rectangle_of b x y && within a e (depth b x y)

-- A WRITE: 0 whitens the whole rectangle; another value paints between old and new, black when it grows and white when it shrinks
unfoldable pub write_of : Bar → ℕ → List ℕ → List ℕ
write_of b v g =
    cond (eqb v 0) (fill (rectangle_of b) false g)
    (cond (ltb b.value (held_to b v)) (fill (stripe b b.value (held_to b v)) true g)
    (fill (stripe b (held_to b v) b.value) false g))

-- the bar keeps the value as held
abbrev pub with_value : Bar → ℕ → Bar
with_value b v = record { kind = b.kind; x1 = b.x1; y1 = b.y1; x2 = b.x2; y2 = b.y2; value = v }

abbrev pub written_bar : Bar → ℕ → Bar
written_bar b v = with_value b (held_to b v)
