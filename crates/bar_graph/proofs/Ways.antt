-- A stripe is painted as a box, by rows and by columns: g before, h after.
-- Assumes nothing.
use mathlib.Core.Path.{◌≡◌, sym, ◌∙◌}
use mathlib.Core.Bool.{Bool, true, false}
use mathlib.Core.List.{List}
use Prim.Native.Nat.{ℕ, ◌+◌}
use Rattle.pixels.specs.Framebuffer.{plain, fill}
use Rattle.pixels.specs.Regions.{box}
use Rattle.pixels.proofs.Painting.{put_region}
use Rattle.bar_graph.specs.declared.Bar.{Bar}
use Rattle.std.specs.declared.ops.Range.{Range}
use Rattle.bar_graph.specs.Bars.{vertical, from_far, stripe}
use Rattle.bar_graph.specs.Axis.{interval_of}
use Rattle.bar_graph.proofs.Stripes.{stripe_rows, stripe_columns}

module _ (b : Bar) (a e : ℕ) (c : Bool) (g h : List ℕ) (far t : Bool) (i : Range ℕ) (p q : ℕ) (ef : far ≡ from_far b.kind) (et : t ≡ vertical b.kind) where
  pub fill_rows : t ≡ true → i ≡ interval_of far b.y1 b.y2 a e → p ≡ b.x1 → q ≡ b.x2
      → h ≡ fill (box p (q + 1) i.start i.end) c g → h ≡ fill (stripe b a e) c g
  unfolding interval_of
  fill_rows v ei ep eq k =
      k ∙ rw (ei, ep, eq, ef) (sym (put_region (stripe b a e) _ (plain c) g (λ x y on. stripe_rows b a e x y (sym et ∙ v))))

  pub fill_columns : t ≡ false → i ≡ interval_of far b.x1 b.x2 a e → p ≡ b.y1 → q ≡ b.y2
      → h ≡ fill (box i.start i.end p (q + 1)) c g → h ≡ fill (stripe b a e) c g
  unfolding interval_of
  fill_columns v ei ep eq k =
      k ∙ rw (ei, ep, eq, ef) (sym (put_region (stripe b a e) _ (plain c) g (λ x y on. stripe_columns b a e x y (sym et ∙ v))))
