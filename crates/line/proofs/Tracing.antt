-- The loop along the major axis, and the two roles that the axes can have.
-- Assumes nothing.
use mathlib.Core.Path.{◌≡◌, refl, sym, ap, ◌∙◌}
use mathlib.Core.Bool.{Bool, true, false}
use mathlib.Core.List.{List}
use Prim.Native.Nat.{ℕ, zero, suc, ◌+◌, ◌*◌, ◌<◌, ◌≤◌, max}
use native.Mathlib.Omega.{arith}
use native.Mathlib.Numerals.{add-one}
use lib.Dec.{le→leb}
use lib.ListN.{length}
use lib.IntN.{pos, neg_ℤ, ◌-ℤ◌}
use lib.Signed.{mag, le_z_yes}
use borrow.Author.Tests.{le-leb, lt-leb}
use Rattle.pixels.specs.Framebuffer.{fill}
use Rattle.pixels.specs.Regions.{point, some}
use Rattle.pixels.proofs.Pictures.{Bytes}
use Rattle.pixels.proofs.Painting.{put_off, put_put, put_region, length-repaint}
use Rattle.pixels.proofs.Touch.{some_same}
use Rattle.line.specs.declared.Walker.{Walker}
use Rattle.line.specs.declared.Slope.{Slope}
use Rattle.line.specs.Line.{distance, towards, rise, path, line_x, line_y, line}
use Rattle.line.specs.Walk.{step_of, slope_of, start_of, column_of, row_of, trace_x, trace_y, traced, WalkerInRange, SlopeInRange}
use Rattle.std.proofs.lemmas.Int.{ints}
use Rattle.line.proofs.Rise.{walker_at, step_at_lem, towards_none, towards_below, rise_low, rise_high, rise_le, rise_none}
use Rattle.line.proofs.Steps.{direction_below, walker_same}

-- ---- where the walker is

start_at : (a1 a2 b1 b2 : ℕ) → start_of a1 a2 b1 ≡ walker_at a1 a2 b1 b2 0
unfolding walker_at start_of
start_at a1 a2 b1 b2 =
    walker_same (ap pos (sym (towards_none a1 a2))) (ap pos (sym (rw none (towards_none b1 b2)))) (rw none (error (distance a1 a2)))
  where
    none : rise (distance a1 a2) (distance b1 b2) 0 ≡ 0
    none = rise_none (distance a1 a2) (distance b1 b2)

    error : (d : ℕ) → neg_ℤ (pos d) ≡ pos (2 * (0 * distance b1 b2) + d) -ℤ pos ((0 + 1) * (2 * d))
    error d = omega (arith, ints)

-- two bytes on each axis, the major axis first
pub record Ends (a1 a2 b1 b2 : ℕ) : Type 0 where
  pub a1_fits : a1 < 256
  pub a2_fits : a2 < 256
  pub b1_fits : b1 < 256
  pub b2_fits : b2 < 256
  pub roles : distance b1 b2 ≤ distance a1 a2

slope_in_range : (a1 a2 b1 b2 : ℕ) → Ends a1 a2 b1 b2 → SlopeInRange (slope_of a1 a2 b1 b2)
unfolding slope_of
slope_in_range a1 a2 b1 b2 h =
    record {
      major_step_below = direction_below a1 a2;
      minor_step_below = direction_below b1 b2;
      twice_rise_below = omega arith;
      twice_run_below = omega arith;
    }

apart : (a b n : ℕ) → a < b + n → b < a + n → mag (pos a -ℤ pos b) < n
apart a b n h k = grind (arith, ints)

walker_in_range : (a1 a2 b1 b2 i : ℕ) → Ends a1 a2 b1 b2 → i ≤ distance a1 a2 → WalkerInRange (walker_at a1 a2 b1 b2 i)
unfolding walker_at
walker_in_range a1 a2 b1 b2 i h u =
    record {
      major_from = le_z_yes (le→leb 0 (towards a1 a2 i) (omega arith));
      major_below = towards_below a1 a2 i h.a1_fits h.a2_fits u;
      minor_from = le_z_yes (le→leb 0 (towards b1 b2 (rise (distance a1 a2) (distance b1 b2) i)) (omega arith));
      minor_below = towards_below b1 b2 (rise (distance a1 a2) (distance b1 b2) i) h.b1_fits h.b2_fits (rise_le (distance a1 a2) (distance b1 b2) i u);
      error_below = error (distance a1 a2) (distance b1 b2) i (omega arith) u;
    }
  where
    error : (d e i : ℕ) → d < 256 → i ≤ d → mag (pos (2 * (i * e) + d) -ℤ pos ((rise d e i + 1) * (2 * d))) < 100000
    error zero e i s l = let z : i ≡ 0 = omega arith in rw (z, rise_none 0 e) (omega (arith, ints))
    error (suc d) e i s l = apart (2 * (i * e) + suc d) ((rise (suc d) e i + 1) * (2 * suc d)) 100000 (omega (arith, rise_high (suc d) e i (omega arith))) (omega (arith, rise_low (suc d) e i))

-- ---- the loop

path_none : (px py : ℕ → ℕ) (c : Bool) (g : List ℕ) → Bytes g → g ≡ fill (path px py 0) c g
unfolding some
path_none px py c g b = put_off (path px py 0) (λ u v. c) g b (λ u v on. refl)

path_more : (px py : ℕ → ℕ) (n : ℕ) (c : Bool) (g : List ℕ) → fill (point (px n) (py n)) c (fill (path px py n) c g) ≡ fill (path px py (n + 1)) c g
unfolding some
path_more px py n c g = put_put (path px py n) (point (px n) (py n)) (λ u v. c) g ∙ rw add-one

-- the pixels before pixel i are painted, and the walker has come to pixel i
pub record Tracing (steep c : Bool) (a1 a2 b1 b2 : ℕ) (g₀ g : List ℕ) (w : Walker) (i : ℕ) : Type 0 where
  pub ends : Ends a1 a2 b1 b2
  pub upto : i ≤ distance a1 a2
  pub long : length g ≡ length g₀
  pub here : w ≡ walker_at a1 a2 b1 b2 i
  pub done : g ≡ fill (path (trace_x steep a1 a2 b1 b2) (trace_y steep a1 a2 b1 b2) i) c g₀

module _ {steep c : Bool} {a1 a2 b1 b2 : ℕ} {g₀ : List ℕ} where
  pub tracing_start : {w : Walker} → Ends a1 a2 b1 b2 → Bytes g₀ → w ≡ start_of a1 a2 b1 → Tracing steep c a1 a2 b1 b2 g₀ g₀ w 0
  tracing_start h b e =
      record {
        ends = h;
        upto = omega arith;
        long = refl;
        here = e ∙ start_at a1 a2 b1 b2;
        done = path_none (trace_x steep a1 a2 b1 b2) (trace_y steep a1 a2 b1 b2) c g₀ b;
      }

  pub tracing_walker : {g : List ℕ} {w : Walker} {i : ℕ} → Tracing steep c a1 a2 b1 b2 g₀ g w i → WalkerInRange w
  tracing_walker {i = i} t = rw t.here (walker_in_range a1 a2 b1 b2 i t.ends t.upto)

  pub tracing_slope : {g : List ℕ} {w : Walker} {i : ℕ} {s : Slope} → Tracing steep c a1 a2 b1 b2 g₀ g w i → s ≡ slope_of a1 a2 b1 b2 → SlopeInRange s
  tracing_slope t e = rw e (slope_in_range a1 a2 b1 b2 t.ends)

  -- the walker's pixel is pixel i
  plotted : {g h : List ℕ} {w : Walker} {i : ℕ} → Tracing steep c a1 a2 b1 b2 g₀ g w i → h ≡ fill (point (column_of steep w) (row_of steep w)) c g
      → h ≡ fill (path (trace_x steep a1 a2 b1 b2) (trace_y steep a1 a2 b1 b2) (i + 1)) c g₀
  unfolding walker_at column_of row_of trace_x trace_y
  plotted {g} {h} {w} {i} t e =
      e ∙ ap (λ (q : Walker). fill (point (column_of steep q) (row_of steep q)) c g) t.here
      ∙ ap (fill (point (trace_x steep a1 a2 b1 b2 i) (trace_y steep a1 a2 b1 b2 i)) c) t.done
      ∙ path_more (trace_x steep a1 a2 b1 b2) (trace_y steep a1 a2 b1 b2) i c g₀

  pub tracing_more : {g h : List ℕ} {w w' : Walker} {s : Slope} {i : ℕ} → Tracing steep c a1 a2 b1 b2 g₀ g w i → i < distance a1 a2
      → h ≡ fill (point (column_of steep w) (row_of steep w)) c g → s ≡ slope_of a1 a2 b1 b2 → w' ≡ step_of w s → Tracing steep c a1 a2 b1 b2 g₀ h w' (i + 1)
  tracing_more {s = s} {i = i} t l e f k =
      record {
        ends = t.ends;
        upto = omega arith;
        long = ap length (plotted t e) ∙ length-repaint _ g₀;
        here = k ∙ ap (λ (r : Walker). step_of r s) t.here ∙ ap (step_of (walker_at a1 a2 b1 b2 i)) f ∙ step_at_lem a1 a2 b1 b2 i t.ends.roles l;
        done = plotted t e;
      }

  pub tracing_end : {g h : List ℕ} {w : Walker} {i : ℕ} → Tracing steep c a1 a2 b1 b2 g₀ g w i → distance a1 a2 ≤ i
      → h ≡ fill (point (column_of steep w) (row_of steep w)) c g → h ≡ fill (traced steep a1 a2 b1 b2) c g₀
  tracing_end {i = i} t l e =
      let z : i ≡ distance a1 a2 = omega arith in
      plotted t e ∙ ap (λ (n : ℕ). fill (path (trace_x steep a1 a2 b1 b2) (trace_y steep a1 a2 b1 b2) (n + 1)) c g₀) z

-- ---- the two roles

path_same : (px py qx qy : ℕ → ℕ) (n m : ℕ) (c : Bool) (g : List ℕ) → n ≡ m → ((i : ℕ) → px i ≡ qx i) → ((i : ℕ) → py i ≡ qy i)
    → fill (path px py n) c g ≡ fill (path qx qy m) c g
path_same px py qx qy n m c g e f h =
    ap (λ (k : ℕ). fill (path px py k) c g) e
    ∙ put_region (path px py m) (path qx qy m) (λ u v. c) g
    (λ u v on. some_same m (λ i. point (px i) (py i) u v) (λ i. point (qx i) (qy i) u v) (λ i. rw (f i, h i)))

pub line_flat : (x1 y1 x2 y2 : ℕ) (c : Bool) (g r : List ℕ) → distance y1 y2 ≤ distance x1 x2
    → r ≡ fill (traced false x1 x2 y1 y2) c g → r ≡ fill (line x1 y1 x2 y2) c g
unfolding trace_x trace_y line_x line_y
line_flat x1 y1 x2 y2 c g r h e =
    e ∙ path_same (trace_x false x1 x2 y1 y2) (trace_y false x1 x2 y1 y2) (line_x x1 y1 x2 y2) (line_y x1 y1 x2 y2)
    (distance x1 x2 + 1) (max (distance x1 x2) (distance y1 y2) + 1) c g (omega arith)
    (λ i. rw (le-leb (distance y1 y2) (distance x1 x2) h)) (λ i. rw (le-leb (distance y1 y2) (distance x1 x2) h))

pub line_steep : (x1 y1 x2 y2 : ℕ) (c : Bool) (g r : List ℕ) → distance x1 x2 < distance y1 y2
    → r ≡ fill (traced true y1 y2 x1 x2) c g → r ≡ fill (line x1 y1 x2 y2) c g
unfolding trace_x trace_y line_x line_y
line_steep x1 y1 x2 y2 c g r h e =
    e ∙ path_same (trace_x true y1 y2 x1 x2) (trace_y true y1 y2 x1 x2) (line_x x1 y1 x2 y2) (line_y x1 y1 x2 y2)
    (distance y1 y2 + 1) (max (distance x1 x2) (distance y1 y2) + 1) c g (omega arith)
    (λ i. rw (lt-leb (distance y1 y2) (distance x1 x2) h)) (λ i. rw (lt-leb (distance y1 y2) (distance x1 x2) h))
