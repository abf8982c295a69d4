-- Columns of a row by its bytes.
-- What contracts of private functions cite, and no rule.
-- Assumes nothing.
use Rattle.std.specs.Prelude.{Bool, true, false, ◌&&◌, ◌||◌, ℕ, ◌+◌, ◌-◌, ◌*◌, ◌/◌, ◌%◌, ◌^◌, ◌<◌, ◌≤◌, eqb}
use Rattle.pixels.specs.Framebuffer.{Region, cell, bit_of, stride}
use Rattle.pixels.specs.Regions.{within}
use Rattle.rectangle.specs.declared.Ends.{Ends}

-- columns x1 up to x2
unfoldable pub ends_of : ℕ → ℕ → Ends
ends_of x1 x2 =
    record {
      first = x1 / 8;
      last = (x2 - 1) / 8;
      left = 255 / 2 ^ (x1 % 8);
      right = 255 - 127 / 2 ^ ((x2 - 1) % 8);
    }

-- a byte of eight pixels in one colour
unfoldable pub solid_byte : Bool → ℕ
solid_byte true = 255
solid_byte false = 0

-- the bytes from number a up to number b
abbrev pub whole_bytes : ℕ → ℕ → Region
whole_bytes a b u v = within a b (cell u v)

-- the columns under mask m of byte i of a row
unfoldable pub byte_columns : ℕ → ℕ → ℕ → Bool
byte_columns i m u = eqb (u / 8) i && bit_of m (u % 8)

-- the columns of both ends and of the bytes between them
unfoldable pub ends_columns : Ends → ℕ → Bool
ends_columns e u = byte_columns e.first e.left u || within (e.first + 1) e.last (u / 8) || byte_columns e.last e.right u

-- columns of row y, and of the first n rows
abbrev pub in_row : (ℕ → Bool) → ℕ → Region
in_row f y u v = f u && eqb v y

abbrev pub in_rows : (ℕ → Bool) → ℕ → Region
in_rows f n u v = f u && within 0 n v

abbrev pub in_all : (ℕ → Bool) → Region
in_all f u v = f u

-- two bytes of a row
pub record Apart (e : Ends) : Type 0 where
  pub apart : e.first < e.last
  pub inside : e.last < stride

-- two runs of n bytes, behind the first byte and before the last one, are all that lie between
pub record Covered (e : Ends) (n : ℕ) : Type 0 where
  pub inside : e.last < stride
  pub fits : e.first + n < e.last
  pub meets : e.last ≤ e.first + 1 + 2 * n
