-- Bars and strips.
-- Assumes nothing.
use Rattle.std.specs.Prelude.{Bool, true, not, ◌&&◌, ℕ, ◌%◌, leb, ltb, set}
use Rattle.refusals.specs.Refusals.{out_of_bounds, corners_out_of_order, number_out_of_range, unknown_type, not_set_up}
use Rattle.pixels.specs.Framebuffer.{width}
use Rattle.bar_graph.specs.Bars.{write_of, written_bar}
use Rattle.strip_chart.specs.Strips.{shifted_strip}
use Rattle.state.specs.State.{bar_of, bar_slot, strip, bar_at, strip_at, with_bars, with_strips}
use Rattle.rules.specs.World.{World, height, panel, with_framebuffer, with_panel, Outcome, quietly, refuse_if}

abbrev pub in_bounds : World → ℕ → ℕ → ℕ → ℕ → Bool
in_bounds w x1 y1 x2 y2 = ltb x1 width && ltb x2 width && ltb y1 (height w) && ltb y2 (height w)

-- corners in order, and no side of one pixel: x1 < x2, y1 < y2
abbrev pub apart : ℕ → ℕ → ℕ → ℕ → Bool
apart x1 y1 x2 y2 = ltb x1 x2 && ltb y1 y2

-- 19, 20, 17, 18; the value is 0 and nothing is painted
unfoldable pub set_up_bar : World → ℕ → ℕ → ℕ → ℕ → ℕ → ℕ → Outcome
set_up_bar w n k x1 y1 x2 y2 =
    refuse_if (leb 16 n) number_out_of_range
    (refuse_if (leb 4 k) unknown_type
    (refuse_if (not (in_bounds w x1 y1 x2 y2)) out_of_bounds
    (refuse_if (not (apart x1 y1 x2 y2)) corners_out_of_order
    (quietly (with_panel w (with_bars (panel w) (set (panel w).bars n (bar_slot true (bar_of k x1 y1 x2 y2 0)))))))))

-- 19, 21
unfoldable pub write_bar : World → ℕ → ℕ → Outcome
write_bar w n v =
    refuse_if (leb 16 n) number_out_of_range
    (refuse_if (not (bar_at (panel w) n).on) not_set_up
    (quietly (with_panel (with_framebuffer w (write_of (bar_at (panel w) n).bar v w.framebuffer))
    (with_bars (panel w) (set (panel w).bars n (bar_slot true (written_bar (bar_at (panel w) n).bar v)))))))

-- 19, 17, 18
unfoldable pub set_up_strip : World → ℕ → ℕ → ℕ → ℕ → ℕ → Outcome
set_up_strip w n x1 y1 x2 y2 =
    refuse_if (leb 8 n) number_out_of_range
    (refuse_if (not (in_bounds w x1 y1 x2 y2)) out_of_bounds
    (refuse_if (not (apart x1 y1 x2 y2)) corners_out_of_order
    (quietly (with_panel w (with_strips (panel w) (set (panel w).strips n (strip true x1 y1 x2 y2)))))))

-- the low seven bits are the number, bit 7 set moves right: 19, 21
unfoldable pub shift_strip : World → ℕ → Outcome
shift_strip w b =
    refuse_if (leb 8 (b % 128)) number_out_of_range
    (refuse_if (not (strip_at (panel w) (b % 128)).on) not_set_up
    (quietly (with_framebuffer w (shifted_strip (leb 128 b) (strip_at (panel w) (b % 128)).x1 (strip_at (panel w) (b % 128)).y1
    (strip_at (panel w) (b % 128)).x2 (strip_at (panel w) (b % 128)).y2 w.framebuffer))))
