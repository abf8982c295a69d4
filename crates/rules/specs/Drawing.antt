-- Drawing: colour, pixel, line, frame, solid rectangle.
-- Assumes nothing.
use Rattle.std.specs.Prelude.{Bool, false, not, ◌&&◌, ℕ, leb}
use Rattle.refusals.specs.Refusals.{corners_out_of_order}
use Rattle.pixels.specs.Framebuffer.{fill}
use Rattle.pixels.specs.Regions.{point, rectangle, everywhere}
use Rattle.canvas.specs.declared.Colour.{Colour}
use Rattle.canvas.specs.Colour.{colour_of}
use Rattle.line.specs.Line.{line}
use Rattle.rectangle.specs.Frame.{frame}
use Rattle.state.specs.declared.Drawing.{Drawing}
use Rattle.state.specs.State.{with_drawing}
use Rattle.rules.specs.World.{World, port, with_framebuffer, with_port, put_text, Outcome, quietly, refuse_if}
use Rattle.rules.specs.Text.{home}

abbrev pub drawing : Colour → ℕ → ℕ → Drawing
drawing c x y = record { colour = c; x = x; y = y }

abbrev pub put_drawing : World → Drawing → World
put_drawing w d = with_port w (with_drawing (port w) d)

-- the whole framebuffer white, and the text point home
unfoldable pub clear : World → Outcome
clear w = quietly (put_text (with_framebuffer w (fill everywhere false w.framebuffer)) (home (port w).text))

unfoldable pub set_colour : World → ℕ → Outcome
set_colour w c = quietly (put_drawing w (drawing (colour_of c) (port w).drawing.x (port w).drawing.y))

unfoldable pub draw_pixel : World → ℕ → ℕ → Outcome
draw_pixel w x y = quietly (with_framebuffer w (fill (point x y) (port w).drawing.colour.black w.framebuffer))

-- its end is kept as it came, beyond the framebuffer too
unfoldable pub draw_line : World → ℕ → ℕ → ℕ → ℕ → Outcome
draw_line w x1 y1 x2 y2 =
    quietly (put_drawing (with_framebuffer w (fill (line x1 y1 x2 y2) (port w).drawing.colour.black w.framebuffer)) (drawing (port w).drawing.colour x2 y2))

-- corners in order: x1 at most x2, y1 at most y2
abbrev pub ordered : ℕ → ℕ → ℕ → ℕ → Bool
ordered x1 y1 x2 y2 = leb x1 x2 && leb y1 y2

-- 18
unfoldable pub draw_frame : World → ℕ → ℕ → ℕ → ℕ → ℕ → Outcome
draw_frame w c x1 y1 x2 y2 =
    refuse_if (not (ordered x1 y1 x2 y2)) corners_out_of_order (quietly (with_framebuffer w (fill (frame x1 y1 x2 y2) (colour_of c).black w.framebuffer)))

-- 18
unfoldable pub fill_rectangle : World → ℕ → ℕ → ℕ → ℕ → ℕ → Outcome
fill_rectangle w c x1 y1 x2 y2 =
    refuse_if (not (ordered x1 y1 x2 y2)) corners_out_of_order (quietly (with_framebuffer w (fill (rectangle x1 y1 x2 y2) (colour_of c).black w.framebuffer)))
