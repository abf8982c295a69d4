-- What the definitions say of kinds 0 to 3: the length, which rows or columns are black, none, all, and values above the length.
-- Assumes nothing.
use mathlib.Core.Path.{◌≡◌, refl, sym, ◌∙◌}
use mathlib.Core.Bool.{Bool, true, false, cond, and-false}
use Prim.Native.Nat.{ℕ, ◌+◌, ◌-◌, ◌≤◌}
use native.Mathlib.Omega.{arith}
use native.Mathlib.Decide.{dec_lt}
use borrow.Author.Tests.{ne_eqb, le-leb, le-ltb}
use Rattle.pixels.specs.Regions.{within, box}
use Rattle.pixels.proofs.Intervals.{within_iff}
use Rattle.bar_graph.specs.declared.Bar.{Bar}
use Rattle.bar_graph.specs.Bars.{vertical, from_far, rectangle_of, count, depth, length_of, held_to, full_picture, stripe}
use Rattle.bar_graph.specs.Axis.{first, end}
use Rattle.bar_graph.proofs.Stripes.{stripe_rows, stripe_columns}

-- ---- the kinds: rows and far side, columns and near side, rows and near side, columns and far side

pub kind_bottom : (vertical 0 ≡ true) × (from_far 0 ≡ true)
kind_bottom = (refl, refl)

pub kind_left : (vertical 1 ≡ false) × (from_far 1 ≡ false)
kind_left = (refl, refl)

pub kind_top : (vertical 2 ≡ true) × (from_far 2 ≡ false)
kind_top = (refl, refl)

-- 3, and any other number
pub kind_right : (k : ℕ) → 3 ≤ k → (vertical k ≡ false) × (from_far k ≡ true)
kind_right k h = (rw (ne_eqb k 0 (omega arith), ne_eqb k 2 (omega arith)), rw (ne_eqb k 1 (omega arith), ne_eqb k 2 (omega arith)))

-- ---- the length

pub length-vertical : (b : Bar) → vertical b.kind ≡ true → b.y1 ≤ b.y2 → length_of b ≡ b.y2 - b.y1 + 1
unfolding length_of
length-vertical b v h = rw v (omega arith)

pub length-horizontal : (b : Bar) → vertical b.kind ≡ false → b.x1 ≤ b.x2 → length_of b ≡ b.x2 - b.x1 + 1
unfolding length_of
length-horizontal b v h = rw v (omega arith)

-- ---- a value that is held

pub held_within : (b : Bar) (v : ℕ) → v ≤ length_of b → held_to b v ≡ v
unfolding held_to
held_within b v h = omega arith

pub held_above : (b : Bar) (v : ℕ) → length_of b ≤ v → held_to b v ≡ length_of b
unfolding held_to
held_above b v h = omega arith

pub held_most : (b : Bar) (v : ℕ) → held_to b v ≤ length_of b
unfolding held_to
held_most b v = omega arith

-- ---- the full picture

-- of 0: nothing is black
pub full_none : (b : Bar) (x y : ℕ) → full_picture b 0 x y ≡ false
unfolding full_picture
full_none b x y = rw (le-ltb (depth b x y) 0 (omega arith)) (and-false (rectangle_of b x y))

-- it is the stripe from the side
full_stripe : (b : Bar) (v x y : ℕ) → full_picture b v x y ≡ stripe b 0 v x y
unfolding full_picture stripe within
full_stripe b v x y = rw (le-leb 0 (depth b x y) (omega arith))

-- of the length, or more: the whole rectangle
whole : (far : Bool) (lo hi v n : ℕ) → count lo hi ≤ v → within (first far lo hi 0 v) (end far lo hi 0 v) n ≡ within lo (hi + 1) n
whole true lo hi v n h = within_iff (first true lo hi 0 v) (end true lo hi 0 v) n lo (hi + 1) n (λ p q. omega arith) (λ p q. omega arith)
whole false lo hi v n h = within_iff (first false lo hi 0 v) (end false lo hi 0 v) n lo (hi + 1) n (λ p q. omega arith) (λ p q. omega arith)

pub full_whole : (b : Bar) (v x y : ℕ) → length_of b ≤ v → full_picture b v x y ≡ rectangle_of b x y
unfolding length_of
full_whole b v x y h = full_stripe b v x y ∙ by (vertical b.kind) refl
  where
    by : (t : Bool) → vertical b.kind ≡ t → stripe b 0 v x y ≡ rectangle_of b x y
    by true e = stripe_rows b 0 v x y e ∙ rw (whole (from_far b.kind) b.y1 b.y2 v y (rw e at h))
    by false e = stripe_columns b 0 v x y e ∙ rw (whole (from_far b.kind) b.x1 b.x2 v x (rw e at h))

-- so a value and what it is held to have one picture
pub full_held : (b : Bar) (v x y : ℕ) → full_picture b (held_to b v) x y ≡ full_picture b v x y
full_held b v x y =
    elim (dec_lt (length_of b) v) [
      | yes h ↦ rw (held_above b v (omega arith)) (full_whole b (length_of b) x y (omega arith) ∙ sym (full_whole b v x y (omega arith)))
      | no h ↦ rw (held_within b v (omega arith))
    ]

-- up to the length: on one axis the last v numbers, or the first
side : (far : Bool) (lo hi v n : ℕ) → v ≤ count lo hi
    → within (first far lo hi 0 v) (end far lo hi 0 v) n ≡ cond far (within (hi + 1 - v) (hi + 1) n) (within lo (lo + v) n)
side true lo hi v n h = within_iff (first true lo hi 0 v) (end true lo hi 0 v) n (hi + 1 - v) (hi + 1) n (λ p q. omega arith) (λ p q. omega arith)
side false lo hi v n h = within_iff (first false lo hi 0 v) (end false lo hi 0 v) n lo (lo + v) n (λ p q. omega arith) (λ p q. omega arith)

module _ (b : Bar) (v x y : ℕ) (h : v ≤ length_of b) where
  -- kind 0: the last v rows
  pub full_bottom : b.kind ≡ 0 → full_picture b v x y ≡ box b.x1 (b.x2 + 1) (b.y2 + 1 - v) (b.y2 + 1) x y
  unfolding length_of
  full_bottom k =
      full_stripe b v x y ∙ stripe_rows b 0 v x y (rw k) ∙ rw (side (from_far b.kind) b.y1 b.y2 v y (rw k at h), k)

  -- kind 1: the first v columns
  pub full_left : b.kind ≡ 1 → full_picture b v x y ≡ box b.x1 (b.x1 + v) b.y1 (b.y2 + 1) x y
  unfolding length_of
  full_left k =
      full_stripe b v x y ∙ stripe_columns b 0 v x y (rw k) ∙ rw (side (from_far b.kind) b.x1 b.x2 v x (rw k at h), k)

  -- kind 2: the first v rows
  pub full_top : b.kind ≡ 2 → full_picture b v x y ≡ box b.x1 (b.x2 + 1) b.y1 (b.y1 + v) x y
  unfolding length_of
  full_top k =
      full_stripe b v x y ∙ stripe_rows b 0 v x y (rw k) ∙ rw (side (from_far b.kind) b.y1 b.y2 v y (rw k at h), k)

  -- kind 3: the last v columns
  pub full_right : b.kind ≡ 3 → full_picture b v x y ≡ box (b.x2 + 1 - v) (b.x2 + 1) b.y1 (b.y2 + 1) x y
  unfolding length_of
  full_right k =
      full_stripe b v x y ∙ stripe_columns b 0 v x y (rw k) ∙ rw (side (from_far b.kind) b.x1 b.x2 v x (rw k at h), k)
