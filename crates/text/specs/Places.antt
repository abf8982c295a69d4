-- The text point by the size of a font.
-- What contracts of private functions cite, and no rule.
-- Assumes nothing.
use Rattle.std.specs.Prelude.{◌||◌, ℕ, ◌+◌, ◌-◌, ◌*◌, eqb, leb}
use Rattle.refusals.specs.Refusals.{out_of_bounds}
use Rattle.pixels.specs.Framebuffer.{width}
use Rattle.rules.specs.World.{World, height, port, put_text, Outcome, quietly, refuse_if}
use Rattle.rules.specs.Text.{at_point}

-- a column or a row from 1, of this size and with this space behind it
abbrev pub pixel_by : ℕ → ℕ → ℕ → ℕ → ℕ
pixel_by margin n size space = margin + (n - 1) * (size + space)

unfoldable pub place_by : World → ℕ → ℕ → ℕ → ℕ → Outcome
place_by w column row wide tall =
    refuse_if
    (eqb column 0 || eqb row 0 || leb width (pixel_by (port w).text.left column wide (port w).text.char_space)
    || leb (height w) (pixel_by (port w).text.top row tall (port w).text.line_space)) out_of_bounds
    (quietly (put_text w
    (at_point (port w).text (pixel_by (port w).text.left column wide (port w).text.char_space) (pixel_by (port w).text.top row tall (port w).text.line_space))))
