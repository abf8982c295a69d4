-- A rectangle on a framebuffer of h rows.
-- What contracts of private functions cite, and no rule.
-- Assumes nothing.
use Rattle.std.specs.Prelude.{Bool, ◌&&◌, ℕ, ltb}
use Rattle.pixels.specs.Framebuffer.{width}

abbrev pub in_bounds_of : ℕ → ℕ → ℕ → ℕ → ℕ → Bool
in_bounds_of h x1 y1 x2 y2 = ltb x1 width && ltb x2 width && ltb y1 h && ltb y2 h
