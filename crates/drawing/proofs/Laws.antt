-- The rules of these commands, each way by itself.
-- Assumes nothing.
use mathlib.Core.Path.{◌≡◌}
use mathlib.Core.Bool.{Bool, true, false, not}
use mathlib.Core.List.{List, []}
use Prim.Native.Nat.{ℕ}
use Rattle.pixels.specs.Framebuffer.{fill}
use Rattle.pixels.specs.Regions.{point, rectangle, everywhere}
use Rattle.canvas.specs.declared.Colour.{Colour}
use Rattle.canvas.specs.Colour.{colour_of}
use Rattle.line.specs.Line.{line}
use Rattle.rectangle.specs.Frame.{frame}
use Rattle.state.specs.declared.State.{State}
use Rattle.rules.specs.World.{World, world, port, put_text, quietly, refused}
use Rattle.rules.specs.Text.{home}
use Rattle.rules.specs.Drawing.{clear, drawing, put_drawing, set_colour, draw_pixel, draw_line, ordered, draw_frame, fill_rectangle}

pub clear_is : (g g' s : List ℕ) (st : State) → g' ≡ fill everywhere false g → clear (world g s st) ≡ quietly (put_text (world g' s st) (home st.port.text))
unfolding clear
clear_is g g' s st e = rw e

pub colour_is : (w : World) (b : ℕ) (c : Colour) → c ≡ colour_of b → set_colour w b ≡ quietly (put_drawing w (drawing c (port w).drawing.x (port w).drawing.y))
unfolding set_colour
colour_is w b c e = rw e

pub pixel_is : (g g' s : List ℕ) (st : State) (x y : ℕ) → g' ≡ fill (point x y) st.port.drawing.colour.black g
    → draw_pixel (world g s st) x y ≡ quietly (world g' s st)
unfolding draw_pixel
pixel_is g g' s st x y e = rw e

pub line_is : (g g' s : List ℕ) (st : State) (x1 y1 x2 y2 : ℕ) → g' ≡ fill (line x1 y1 x2 y2) st.port.drawing.colour.black g
    → draw_line (world g s st) x1 y1 x2 y2 ≡ quietly (put_drawing (world g' s st) (drawing st.port.drawing.colour x2 y2))
unfolding draw_line
line_is g g' s st x1 y1 x2 y2 e = rw e

pub frame_refused : (w : World) (c x1 y1 x2 y2 : ℕ) (t : Bool) → t ≡ ordered x1 y1 x2 y2 → not t ≡ true → draw_frame w c x1 y1 x2 y2 ≡ refused 18 []
unfolding draw_frame
frame_refused w c x1 y1 x2 y2 t e f = rw (← e, f)

pub frame_is : (g g' s : List ℕ) (st : State) (b x1 y1 x2 y2 : ℕ) (c : Colour) (t : Bool) → t ≡ ordered x1 y1 x2 y2 → not t ≡ false → c ≡ colour_of b
    → g' ≡ fill (frame x1 y1 x2 y2) c.black g → draw_frame (world g s st) b x1 y1 x2 y2 ≡ quietly (world g' s st)
unfolding draw_frame
frame_is g g' s st b x1 y1 x2 y2 c t e f d h = rw (← e, f, h, d)

pub solid_refused : (w : World) (c x1 y1 x2 y2 : ℕ) (t : Bool) → t ≡ ordered x1 y1 x2 y2 → not t ≡ true → fill_rectangle w c x1 y1 x2 y2 ≡ refused 18 []
unfolding fill_rectangle
solid_refused w c x1 y1 x2 y2 t e f = rw (← e, f)

pub solid_is : (g g' s : List ℕ) (st : State) (b x1 y1 x2 y2 : ℕ) (c : Colour) (t : Bool) → t ≡ ordered x1 y1 x2 y2 → not t ≡ false → c ≡ colour_of b
    → g' ≡ fill (rectangle x1 y1 x2 y2) c.black g → fill_rectangle (world g s st) b x1 y1 x2 y2 ≡ quietly (world g' s st)
unfolding fill_rectangle
solid_is g g' s st b x1 y1 x2 y2 c t e f d h = rw (← e, f, h, d)
