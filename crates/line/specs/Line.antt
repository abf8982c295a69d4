-- The rule of the line, by division.
-- Assumes nothing.
use Rattle.std.specs.Prelude.{cond, ℕ, ◌+◌, ◌-◌, ◌*◌, ◌/◌, max, leb, ltb}
use Rattle.pixels.specs.Framebuffer.{Region}
use Rattle.pixels.specs.Regions.{point, some}

-- one of the two differences is 0
abbrev pub distance : ℕ → ℕ → ℕ
distance p q = (q - p) + (p - q)

-- n steps, at most their distance, from p towards q
unfoldable pub towards : ℕ → ℕ → ℕ → ℕ
towards p q n = cond (ltb p q) (p + n) (p - n)

-- THE RULE: where the distance is d on one axis and e, at most d, on the other, the steps on the other after i on the one.
-- A half is rounded up; with both distances 0 it is 0, as is every number divided by 0
unfoldable pub rise : ℕ → ℕ → ℕ → ℕ
rise d e i = (2 * (i * e) + d) / (2 * d)

-- column and row of pixel i of the line from (x1, y1) to (x2, y2)
unfoldable pub line_x : ℕ → ℕ → ℕ → ℕ → ℕ → ℕ
line_x x1 y1 x2 y2 i = cond (leb (distance y1 y2) (distance x1 x2)) (towards x1 x2 i) (towards x1 x2 (rise (distance y1 y2) (distance x1 x2) i))

unfoldable pub line_y : ℕ → ℕ → ℕ → ℕ → ℕ → ℕ
line_y x1 y1 x2 y2 i = cond (leb (distance y1 y2) (distance x1 x2)) (towards y1 y2 (rise (distance x1 x2) (distance y1 y2) i)) (towards y1 y2 i)

-- the pixels (px i, py i), i below n
abbrev pub path : (ℕ → ℕ) → (ℕ → ℕ) → ℕ → Region
path px py n u v = some n (λ i. point (px i) (py i) u v)

-- the line: its pixels 0 up to, and with, the greater distance
abbrev pub line : ℕ → ℕ → ℕ → ℕ → Region
line x1 y1 x2 y2 = path (line_x x1 y1 x2 y2) (line_y x1 y1 x2 y2) (max (distance x1 x2) (distance y1 y2) + 1)
