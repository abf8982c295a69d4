-- Where a byte of data in line begins.
-- What contracts of private functions cite, and no rule.
-- Assumes nothing.
use Rattle.std.specs.Prelude.{◌≡◌, ℕ, ◌≤◌}
use Rattle.bitmap.specs.declared.Place.{Place}
use Rattle.bitmap.specs.Bitmaps.{inline_column, inline_row}

pub record PlaceIs (x1 y1 x2 k : ℕ) (p : Place) : Type 0 where
  pub column : p.x ≡ inline_column x1 x2 k
  pub row : p.y ≡ inline_row x1 y1 x2 k
  pub inside : p.x ≤ x2
