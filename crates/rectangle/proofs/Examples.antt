-- Worked examples of rectangles and frames, by computing, on a framebuffer of two rows.
-- Assumes nothing.
use mathlib.Core.Path.{◌≡◌, refl}
use mathlib.Core.Bool.{true, false}
use mathlib.Core.List.{[], ◌∷◌, ◌++◌}
use lib.ListN.{replicate}
use Rattle.pixels.specs.Framebuffer.{digit, bit_of, byte_of, bytes_of, pixel, picture, repaint, fill}
use Rattle.pixels.specs.Regions.{within, rectangle}
use Rattle.rectangle.specs.Frame.{frame}
use Rattle.rectangle.specs.Ends.{ends_of}

-- columns 6 to 9 of both rows
solid : fill (rectangle 6 0 9 1) true (replicate 60 0) ≡ 3 ∷ 192 ∷ replicate 28 0 ++ (3 ∷ 192 ∷ replicate 28 0)
unfolding repaint picture bytes_of byte_of digit pixel bit_of within
solid = refl

-- what lies beyond column 239 and below the last row is cut off
cut : fill (rectangle 238 1 255 255) false (replicate 60 255) ≡ replicate 59 255 ++ (252 ∷ [])
unfolding repaint picture bytes_of byte_of digit pixel bit_of within
cut = refl

-- columns 5 to 20: three pixels of the first byte, all of the next, five of the last
ends : ends_of 5 21 ≡ record { first = 0; last = 2; left = 7; right = 248 }
unfolding ends_of
ends = refl

-- from edge to edge both masks are whole bytes
whole_width : ends_of 0 240 ≡ record { first = 0; last = 29; left = 255; right = 255 }
unfolding ends_of
whole_width = refl

-- corners out of order: nothing
none : fill (rectangle 9 0 6 1) true (replicate 60 0) ≡ replicate 60 0
unfolding repaint picture bytes_of byte_of digit pixel bit_of within
none = refl

-- the right edge lies beyond: it is not drawn at column 239 instead, and neither is the lower one at the last row
open_frame : fill (frame 232 0 250 9) true (replicate 60 0) ≡ replicate 29 0 ++ (255 ∷ replicate 29 0 ++ (128 ∷ []))
unfolding frame repaint picture bytes_of byte_of digit pixel bit_of within
open_frame = refl
