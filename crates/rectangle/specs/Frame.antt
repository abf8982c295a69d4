-- The frame: the edges of a rectangle.
-- Assumes nothing.
use Rattle.std.specs.Prelude.{◌&&◌, ◌||◌, ℕ, eqb}
use Rattle.pixels.specs.Framebuffer.{Region}
use Rattle.pixels.specs.Regions.{rectangle}

-- Each edge is clipped by itself: the edge of a corner beyond the framebuffer is not drawn at its rim instead.
unfoldable pub frame : ℕ → ℕ → ℕ → ℕ → Region
frame x1 y1 x2 y2 u v = rectangle x1 y1 x2 y2 u v && (eqb v y1 || eqb v y2 || eqb u x1 || eqb u x2)
