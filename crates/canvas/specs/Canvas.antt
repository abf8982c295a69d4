-- A mask on one byte of a framebuffer, and rows to lend on.
-- Assumes nothing.
use Rattle.std.specs.Prelude.{◌≡◌, Bool, cond, ◌&&◌, ℕ, ◌%◌, eqb}
use Rattle.pixels.specs.Framebuffer.{Region, cell, bit_of, byte_of, row_start, rows_end, row_count}
use Rattle.canvas.specs.declared.Rows.{Rows}

-- where mask m has a 1, on byte number i
abbrev pub masked : ℕ → ℕ → Region
masked i m u v = eqb (cell u v) i && bit_of m (u % 8)

-- byte b, its bits under mask m in the colour c
unfoldable pub painted_of : ℕ → ℕ → Bool → ℕ
painted_of b m c = byte_of (λ k. cond (bit_of m k) c (bit_of b k))

-- rows y1 up to y2 of n bytes
pub record RowsAre (n y1 y2 : ℕ) (r : Rows) : Type 0 where
  pub from_is : r.from ≡ row_start n y1
  pub to_is : r.to ≡ rows_end n y1 y2
  pub count_is : r.count ≡ row_count n y1 y2
