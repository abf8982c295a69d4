-- What fits on h rows: a pixel by its column and row, a rectangle by its far corner.
-- Assumes nothing.
use mathlib.Core.Path.{◌≡◌}
use mathlib.Core.Bool.{true}
use Prim.Native.Nat.{ℕ, ◌*◌, ◌<◌}
use native.Mathlib.Omega.{arith}
use Rattle.pixels.specs.Framebuffer.{On, stride, width}
use Rattle.pixels.specs.Regions.{rectangle}
use Rattle.pixels.proofs.Touch.{rectangle_true}

pub pixel_fits : (h x y : ℕ) → x < width → y < h → On (stride * h) x y
pixel_fits h x y a b = (a, omega arith)

-- and nothing else does
pub fits_pixel : (h x y : ℕ) → On (stride * h) x y → (x < width) × (y < h)
fits_pixel h x y on = (on.0, omega (arith, on.1))

pub rectangle_fits : (h x1 y1 x2 y2 x y : ℕ) → x2 < width → y2 < h → rectangle x1 y1 x2 y2 x y ≡ true → On (stride * h) x y
rectangle_fits h x1 y1 x2 y2 x y a b r = let t = rectangle_true x1 y1 x2 y2 x y r in pixel_fits h x y (omega arith) (omega arith)
