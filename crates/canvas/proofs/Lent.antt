-- A painter that is lent rows y1 up to y2 and paints a box of them from the top has painted that box of the framebuffer.
-- Assumes nothing.
use mathlib.Core.Path.{◌≡◌, refl, ap, ◌∙◌}
use mathlib.Core.List.{List}
use Prim.Native.Nat.{ℕ, ◌-◌, min}
use lib.ListN.{length}
use borrow.Rule.Slice.PartMut.{put_mid, mid_of}
use Rattle.pixels.specs.Framebuffer.{Picture, put, width}
use Rattle.pixels.specs.Regions.{box}
use Rattle.pixels.proofs.Pictures.{Bytes}
use Rattle.pixels.proofs.Painting.{put_region}
use Rattle.pixels.proofs.Intervals.{within_cut}
use Rattle.pixels.proofs.Rows.{rows_box}
use Rattle.canvas.specs.declared.Rows.{Rows}
use Rattle.canvas.specs.Canvas.{RowsAre}

pub lent_box : (g h : List ℕ) (x1 x2 y1 y2 right : ℕ) (r : Rows) (p : Picture) → Bytes g → RowsAre (length g) y1 y2 r → right ≡ min x2 width
    → h ≡ put (box x1 right 0 r.count) p (mid_of r.from (r.to - r.from) g)
    → put_mid r.from (r.to - r.from) g h ≡ put (box x1 x2 y1 y2) (λ x y. p x (y - y1)) g
lent_box g h x1 x2 y1 y2 right r p b s er e =
    ap (put_mid r.from (r.to - r.from) g)
    (e ∙ ap (λ (n : ℕ). put (box x1 n 0 r.count) p (mid_of r.from (r.to - r.from) g)) er)
    ∙ rows_box g y1 y2 r.from r.to s.from_is s.to_is x1 x2 r.count p b s.count_is

-- the same of columns that are not cut first
pub lent_whole : (g h : List ℕ) (x1 x2 y1 y2 : ℕ) (r : Rows) (p : Picture) → Bytes g → RowsAre (length g) y1 y2 r
    → h ≡ put (box x1 x2 0 r.count) p (mid_of r.from (r.to - r.from) g)
    → put_mid r.from (r.to - r.from) g h ≡ put (box x1 x2 y1 y2) (λ x y. p x (y - y1)) g
lent_whole g h x1 x2 y1 y2 r p b s e =
    lent_box g h x1 x2 y1 y2 (min x2 width) r p b s refl
    (e ∙ put_region (box x1 x2 0 r.count) (box x1 (min x2 width) 0 r.count) p (mid_of r.from (r.to - r.from) g)
    (λ u v on. rw (within_cut x1 x2 width u on.0)))
