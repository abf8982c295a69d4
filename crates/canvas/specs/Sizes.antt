-- The heights that a framebuffer can have, and its bytes.
-- Assumes nothing.
use Rattle.std.specs.Prelude.{Bool, ◌||◌, ℕ, ◌*◌, eqb}
use Rattle.pixels.specs.Framebuffer.{stride}

-- in rows
abbrev pub low_height : ℕ
low_height = 64

abbrev pub tall_height : ℕ
tall_height = 128

unfoldable pub is_height : ℕ → Bool
is_height h = eqb h low_height || eqb h tall_height

-- the bytes of h rows
abbrev pub length_for : ℕ → ℕ
length_for h = stride * h
