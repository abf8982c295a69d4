-- THE COLOUR BYTE, in each of the three commands that read one: 0 is white, and any other byte black.
-- Assumes nothing.
use mathlib.Core.Path.{◌≡◌, ◌∙◌, refl}
use mathlib.Core.Bool.{Bool, true, false, not}
use mathlib.Core.List.{List, [], ◌∷◌, map}
use Prim.Native.Nat.{ℕ}
use lib.Dec.{eqb}
use lib.ListN.{length, replicate}
use Rattle.pixels.specs.Framebuffer.{Region, On, pixel, plain, fill, repaint, picture, bytes_of, byte_of, digit, bit_of}
use Rattle.pixels.specs.Regions.{rectangle, within}
use Rattle.pixels.proofs.Painting.{pixel_put}
use Rattle.rectangle.specs.Frame.{frame}
use Rattle.state.specs.declared.Command.TheVariants.{DrawFrame, FillRectangle}
use Rattle.state.specs.State.{config, start_state}
use Rattle.state.specs.Commands.{command_of}
use Rattle.rules.specs.World.{World, world, port}
use Rattle.rules.specs.Drawing.{ordered, set_colour, draw_frame, fill_rectangle}
use Rattle.rules.specs.Step.{obey, argument, after}

-- THE DRAWING COLOUR is kept as a colour
pub colour_kept : (w : World) (c : ℕ) → (port (after w (set_colour w c))).drawing.colour.black ≡ not (eqb c 0)
unfolding set_colour after
colour_kept w c = refl

filled_with : (s : Region) (b : Bool) (g : List ℕ) (u v : ℕ) → On (length g) u v → s u v ≡ true → pixel (fill s b g) u v ≡ b
filled_with s b g u v on e = pixel_put s (plain b) g u v on ∙ rw e

-- EACH PIXEL OF A FRAME, and of a solid rectangle
module _ (w : World) (c x1 y1 x2 y2 u v : ℕ) (o : ordered x1 y1 x2 y2 ≡ true) (on : On (length w.framebuffer) u v) where
  pub frame_coloured : frame x1 y1 x2 y2 u v ≡ true → pixel (after w (draw_frame w c x1 y1 x2 y2)).framebuffer u v ≡ not (eqb c 0)
  unfolding draw_frame after
  frame_coloured e = rw o (filled_with (frame x1 y1 x2 y2) (not (eqb c 0)) w.framebuffer u v on e)

  pub solid_coloured : rectangle x1 y1 x2 y2 u v ≡ true → pixel (after w (fill_rectangle w c x1 y1 x2 y2)).framebuffer u v ≡ not (eqb c 0)
  unfolding fill_rectangle after
  solid_coloured e = rw o (filled_with (rectangle x1 y1 x2 y2) (not (eqb c 0)) w.framebuffer u v on e)

-- ---- worked examples, on one row whose first four pixels are white and the next four black

abbrev row : ℕ → List ℕ
row b = b ∷ replicate 29 0

abbrev held : World
held = world (row 15) (replicate 1024 0) (start_state (config 1 1) 0)

-- 254 is no prefix where a colour byte is due
abbrev bytes : List ℕ
bytes = 0 ∷ 1 ∷ 2 ∷ 128 ∷ 254 ∷ 255 ∷ []

abbrev kept : ℕ → Bool
kept c = (port (after held (argument held 99 0 c))).drawing.colour.black

abbrev framed : ℕ → List ℕ
framed c = (after held (obey DrawFrame (c ∷ 0 ∷ 0 ∷ 7 ∷ 0 ∷ []) held)).framebuffer

abbrev filled : ℕ → List ℕ
filled c = (after held (obey FillRectangle (c ∷ 0 ∷ 0 ∷ 7 ∷ 0 ∷ []) held)).framebuffer

pub drawing_colours : map kept bytes ≡ false ∷ true ∷ true ∷ true ∷ true ∷ true ∷ []
unfolding argument command_of obey set_colour after
drawing_colours = refl

pub frame_colours : map framed bytes ≡ row 0 ∷ row 255 ∷ row 255 ∷ row 255 ∷ row 255 ∷ row 255 ∷ []
unfolding obey draw_frame frame after repaint picture bytes_of byte_of digit pixel bit_of within
frame_colours = refl

pub solid_colours : map filled bytes ≡ row 0 ∷ row 255 ∷ row 255 ∷ row 255 ∷ row 255 ∷ row 255 ∷ []
unfolding obey fill_rectangle after repaint picture bytes_of byte_of digit pixel bit_of within
solid_colours = refl
