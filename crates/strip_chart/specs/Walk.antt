-- The walk over a row of a strip chart, from the column that goes out to the one that comes in.
-- What contracts of private functions cite, and no rule.
-- Assumes nothing.
use Rattle.std.specs.Prelude.{Bool, cond, List, ℕ, ◌+◌, ◌-◌, ◌*◌, ◌/◌, min, max}
use Rattle.pixels.specs.Framebuffer.{put}
use Rattle.pixels.specs.Regions.{span, box}
use Rattle.std.specs.declared.ops.Range.{Range}
use Rattle.strip_chart.specs.Strips.{shifted}

abbrev pub part : ℕ → ℕ → Range ℕ
part a b = record { start = a; end = b }

-- the columns in the byte of column x from it on towards column e, and not with that one
unfoldable pub part_of : Bool → ℕ → ℕ → Range ℕ
part_of right x e = cond right (part (max (8 * (x / 8)) (e + 1)) (x + 1)) (part x (min (8 * (x / 8) + 8) e))

-- the column behind a part, on the way
unfoldable pub beyond : Bool → Range ℕ → ℕ
beyond right p = cond right (p.start - 1) p.end

abbrev pub shifted_row : Bool → ℕ → ℕ → ℕ → List ℕ → List ℕ
shifted_row right x1 x2 y g = put (span x1 (x2 + 1) y) (shifted right x1 x2 g) g

abbrev pub shifted_rows : Bool → ℕ → ℕ → ℕ → List ℕ → List ℕ
shifted_rows right x1 x2 n g = put (box x1 (x2 + 1) 0 n) (shifted right x1 x2 g) g
