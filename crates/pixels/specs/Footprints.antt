-- Footprints: the pixels that a painter may change.
-- Assumes nothing.
use Rattle.std.specs.Prelude.{◌≡◌, false, List, ℕ, length}
use Rattle.pixels.specs.Framebuffer.{Region, On, pixel}

-- h is g but for pixels of f
pub record SameOutside (f : Region) (g h : List ℕ) : Type 0 where
  pub long : length h ≡ length g
  pub same : (x y : ℕ) → On (length g) x y → f x y ≡ false → pixel h x y ≡ pixel g x y
