-- Saved bitmaps, and data in line.
-- Assumes nothing.
use Rattle.std.specs.Prelude.{Option, Some, None, List, [], cond, not, ℕ, ◌+◌, ltb, take, drop}
use Rattle.refusals.specs.Refusals.{corners_out_of_order, number_out_of_range}
use Rattle.directory.specs.declared.Location.{Location}
use Rattle.directory.specs.Directory.{find_of, found_number}
use Rattle.fonts.specs.Checks.{malformed, check_number}
use Rattle.fonts.specs.Bitmaps.{bitmap_width, bitmap_height, is_bitmap}
use Rattle.bitmap.specs.Bitmaps.{packed_box, inline_byte}
use Rattle.state.specs.declared.Phase.{Phase}
use Rattle.state.specs.declared.Phase.TheVariants.{Idle, Inline}
use Rattle.state.specs.State.{with_phase, no_args}
use Rattle.state.specs.Soundness.{inline_bytes}
use Rattle.rules.specs.World.{World, port, with_framebuffer, with_port, Outcome, quietly, refused, refuse_if}
use Rattle.rules.specs.Numbers.{too_high}
use Rattle.rules.specs.Drawing.{ordered}

abbrev pub in_phase : World → Phase → World
in_phase w p = with_port w (with_phase (port w) p no_args)

-- 23
unfoldable pub bitmap_in : World → List ℕ → ℕ → ℕ → Outcome
bitmap_in w f x y =
    refuse_if (not (is_bitmap f)) (check_number malformed) (quietly (with_framebuffer w (packed_box x y (bitmap_width f) (bitmap_height f) (drop 2 f) w.framebuffer)))

-- 22
unfoldable pub bitmap_at : World → Option Location → ℕ → ℕ → Outcome
bitmap_at w None x y = refused (found_number None) []
bitmap_at w (Some f) x y = bitmap_in w (take f.size (drop f.start w.store)) x y

-- 19
unfoldable pub show_bitmap : World → ℕ → ℕ → ℕ → Outcome
show_bitmap w n x y = refuse_if (too_high n) number_out_of_range (bitmap_at w (find_of w.store 2 n) x y)

-- 18; each row's data start on a new byte, even where clipped
unfoldable pub begin_inline : World → ℕ → ℕ → ℕ → ℕ → Outcome
begin_inline w x1 y1 x2 y2 = refuse_if (not (ordered x1 y1 x2 y2)) corners_out_of_order (quietly (in_phase w (Inline x1 y1 x2 y2 0)))

-- byte number `came` of it, painted as it comes
unfoldable pub inline_data : World → ℕ → ℕ → ℕ → ℕ → ℕ → ℕ → Outcome
inline_data w x1 y1 x2 y2 came b =
    quietly (in_phase (with_framebuffer w (inline_byte x1 y1 x2 y2 came b w.framebuffer))
    (cond (ltb (came + 1) (inline_bytes x1 y1 x2 y2)) (Inline x1 y1 x2 y2 (came + 1)) Idle))
