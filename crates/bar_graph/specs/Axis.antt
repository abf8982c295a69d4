-- The interval of rows or columns that lie from one depth up to another, on one axis.
-- What contracts of private functions cite, and no rule.
-- Assumes nothing.
use Rattle.std.specs.Prelude.{Bool, cond, ℕ, ◌+◌, ◌-◌, min, max}
use Rattle.std.specs.declared.ops.Range.{Range}

abbrev pub interval : ℕ → ℕ → Range ℕ
interval from to = record { start = from; end = to }

abbrev pub first : Bool → ℕ → ℕ → ℕ → ℕ → ℕ
first far lo hi a e = cond far (max lo (hi + 1 - e)) (lo + a)

abbrev pub end : Bool → ℕ → ℕ → ℕ → ℕ → ℕ
end far lo hi a e = cond far (hi + 1 - a) (min (lo + e) (hi + 1))

unfoldable pub interval_of : Bool → ℕ → ℕ → ℕ → ℕ → Range ℕ
interval_of far lo hi a e = interval (first far lo hi a e) (end far lo hi a e)
