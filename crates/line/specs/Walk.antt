-- The walk along a line: its start, its step, and the pixels that it comes to.
-- What contracts of private functions cite, and no rule.
-- Assumes nothing.
use Rattle.std.specs.Prelude.{Bool, cond, ℕ, ◌+◌, ◌<◌, ltb, ℤ, pos, negsuc, neg_ℤ, nat_abs, ◌+ℤ◌, ◌-ℤ◌, ◌≤ℤ◌}
use Rattle.std.specs.Int.Signed.{lt_z, mag}
use Rattle.pixels.specs.Framebuffer.{Region}
use Rattle.line.specs.declared.Walker.{Walker}
use Rattle.line.specs.declared.Slope.{Slope}
use Rattle.line.specs.Line.{distance, towards, rise, path}

-- 1, 0 or -1
unfoldable pub direction_of : ℕ → ℕ → ℤ
direction_of p q = cond (ltb p q) (pos 1) (cond (ltb q p) (negsuc 0) (pos 0))

-- on both axes a byte; bounds far from what an i32 holds are enough for the rest
pub record WalkerInRange (w : Walker) : Type 0 where
  pub major_from : pos 0 ≤ℤ w.major
  pub major_below : mag w.major < 256
  pub minor_from : pos 0 ≤ℤ w.minor
  pub minor_below : mag w.minor < 256
  pub error_below : mag w.error < 100000

pub record SlopeInRange (s : Slope) : Type 0 where
  pub major_step_below : mag s.major_step < 100000
  pub minor_step_below : mag s.minor_step < 100000
  pub twice_rise_below : mag s.twice_rise < 100000
  pub twice_run_below : mag s.twice_run < 100000

abbrev pub walker : ℤ → ℤ → ℤ → Walker
walker a b e = record { major = a; minor = b; error = e }

abbrev pub slope : ℤ → ℤ → ℤ → ℤ → Slope
slope a b e d = record { major_step = a; minor_step = b; twice_rise = e; twice_run = d }

unfoldable pub step_of : Walker → Slope → Walker
step_of w s =
    cond (lt_z (w.error +ℤ s.twice_rise) (pos 0)) (walker (w.major +ℤ s.major_step) w.minor (w.error +ℤ s.twice_rise))
    (walker (w.major +ℤ s.major_step) (w.minor +ℤ s.minor_step) (w.error +ℤ s.twice_rise -ℤ s.twice_run))

-- from a1 to a2 on the major axis, from b1 to b2 on the minor
unfoldable pub slope_of : ℕ → ℕ → ℕ → ℕ → Slope
slope_of a1 a2 b1 b2 =
    slope (direction_of a1 a2) (direction_of b1 b2) (pos (distance b1 b2 + distance b1 b2)) (pos (distance a1 a2 + distance a1 a2))

unfoldable pub start_of : ℕ → ℕ → ℕ → Walker
start_of a1 a2 b1 = walker (pos a1) (pos b1) (neg_ℤ (pos (distance a1 a2)))

-- the pixel that the walker has come to
unfoldable pub column_of : Bool → Walker → ℕ
column_of steep w = cond steep (nat_abs w.minor) (nat_abs w.major)

unfoldable pub row_of : Bool → Walker → ℕ
row_of steep w = cond steep (nat_abs w.major) (nat_abs w.minor)

-- column and row of pixel i, the axes by their roles
unfoldable pub trace_x : Bool → ℕ → ℕ → ℕ → ℕ → ℕ → ℕ
trace_x steep a1 a2 b1 b2 i = cond steep (towards b1 b2 (rise (distance a1 a2) (distance b1 b2) i)) (towards a1 a2 i)

unfoldable pub trace_y : Bool → ℕ → ℕ → ℕ → ℕ → ℕ → ℕ
trace_y steep a1 a2 b1 b2 i = cond steep (towards a1 a2 i) (towards b1 b2 (rise (distance a1 a2) (distance b1 b2) i))

-- all of them, the last one too
abbrev pub traced : Bool → ℕ → ℕ → ℕ → ℕ → Region
traced steep a1 a2 b1 b2 = path (trace_x steep a1 a2 b1 b2) (trace_y steep a1 a2 b1 b2) (distance a1 a2 + 1)
