-- A stripe of a bar is a box: its interval takes the rows' place or the columns'.
-- Assumes nothing.
use mathlib.Core.Path.{◌≡◌, sym, ap, ◌∙◌}
use mathlib.Core.Bool.{Bool, true, false, ◌&&◌, and_comm, and_assoc}
use Prim.Native.Nat.{ℕ, ◌+◌}
use Rattle.pixels.specs.Regions.{within, box}
use Rattle.bar_graph.specs.declared.Bar.{Bar}
use Rattle.bar_graph.specs.Bars.{vertical, from_far, depth_on, depth, stripe}
use Rattle.bar_graph.specs.Axis.{first, end}
use Rattle.bar_graph.proofs.Axis.{depth_interval}

rows : (p q r s : Bool) → (q && r) ≡ s → (p && q && r) ≡ (p && s)
rows p q r s e = and_assoc p q r ∙ ap (λ (b : Bool). p && b) e

columns : (p q r s : Bool) → (p && r) ≡ s → (p && q && r) ≡ (s && q)
columns p q r s e = and_assoc p q r ∙ ap (λ (b : Bool). p && b) (and_comm q r) ∙ sym (and_assoc p r q) ∙ ap (λ (b : Bool). b && q) e

module _ (b : Bar) (a e x y : ℕ) where
  pub stripe_rows : vertical b.kind ≡ true
      → stripe b a e x y
      ≡ box b.x1 (b.x2 + 1) (first (from_far b.kind) b.y1 b.y2 a e) (end (from_far b.kind) b.y1 b.y2 a e) x y
  unfolding stripe depth
  stripe_rows v =
      rw v (rows (within b.x1 (b.x2 + 1) x) (within b.y1 (b.y2 + 1) y) (within a e (depth_on (from_far b.kind) b.y1 b.y2 y)) _
      (depth_interval (from_far b.kind) b.y1 b.y2 a e y))

  pub stripe_columns : vertical b.kind ≡ false
      → stripe b a e x y
      ≡ box (first (from_far b.kind) b.x1 b.x2 a e) (end (from_far b.kind) b.x1 b.x2 a e) b.y1 (b.y2 + 1) x y
  unfolding stripe depth
  stripe_columns v =
      rw v (columns (within b.x1 (b.x2 + 1) x) (within b.y1 (b.y2 + 1) y) (within a e (depth_on (from_far b.kind) b.x1 b.x2 x)) _
      (depth_interval (from_far b.kind) b.x1 b.x2 a e x))
