-- Regions. An interval goes from its first number up to, and not with, its second.
-- Assumes nothing.
use Rattle.std.specs.Prelude.{Bool, true, false, ◌&&◌, ◌||◌, ℕ, zero, suc, ◌+◌, eqb, leb, ltb}
use Rattle.pixels.specs.Framebuffer.{Region}

unfoldable pub within : ℕ → ℕ → ℕ → Bool
within a b n = leb a n && ltb n b

-- one pixel
abbrev pub point : ℕ → ℕ → Region
point x y u v = eqb u x && eqb v y

-- columns x1 up to x2 of row y
abbrev pub span : ℕ → ℕ → ℕ → Region
span x1 x2 y u v = within x1 x2 u && eqb v y

-- columns x1 up to x2 of rows y1 up to y2
abbrev pub box : ℕ → ℕ → ℕ → ℕ → Region
box x1 x2 y1 y2 u v = within x1 x2 u && within y1 y2 v

-- columns x1 up to x2 of every row
abbrev pub columns : ℕ → ℕ → Region
columns x1 x2 u v = within x1 x2 u

-- the rectangle of two corners, both in it, as commands give it
abbrev pub rectangle : ℕ → ℕ → ℕ → ℕ → Region
rectangle x1 y1 x2 y2 = box x1 (x2 + 1) y1 (y2 + 1)

abbrev pub everywhere : Region
everywhere u v = true

-- does f hold of a number below n?
unfoldable pub some : ℕ → (ℕ → Bool) → Bool
some zero f = false
some (suc n) f = some n f || f n

-- has the footprint f a pixel in the rectangle? A search that computes
unfoldable pub touches : Region → ℕ → ℕ → ℕ → ℕ → Bool
touches f x1 y1 x2 y2 = some (x2 + 1) (λ x. some (y2 + 1) (λ y. rectangle x1 y1 x2 y2 x y && f x y))
