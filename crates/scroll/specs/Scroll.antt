-- Scrolling up.
-- Assumes nothing.
use Rattle.std.specs.Prelude.{◌≡◌, cond, List, ℕ, ◌+◌, ltb, length, get_or}
use Rattle.pixels.specs.Framebuffer.{Picture, pixel, put}
use Rattle.pixels.specs.Regions.{everywhere}

-- every row shows what stood n rows below it; below the last row all was white
abbrev pub raised : ℕ → List ℕ → Picture
raised n g x y = pixel g x (y + n)

abbrev pub scrolled : ℕ → List ℕ → List ℕ
scrolled n g = put everywhere (raised n g) g

-- h is g, with its bytes from number `by` on moved to the front, n of them
pub record Moved (by n : ℕ) (g h : List ℕ) : Type 0 where
  pub long : length h ≡ length g
  pub byte : (k : ℕ) → get_or h k 0 ≡ cond (ltb k n) (get_or g (k + by) 0) (get_or g k 0)
