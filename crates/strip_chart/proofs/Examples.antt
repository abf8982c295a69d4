-- Worked examples of strip charts, by computing, on a framebuffer of one row: columns 4 to 11 of 00001101 10100000.
-- Assumes nothing.
use mathlib.Core.Path.{◌≡◌, refl}
use mathlib.Core.Bool.{true, false}
use mathlib.Core.List.{◌∷◌}
use lib.ListN.{replicate}
use Rattle.pixels.specs.Framebuffer.{digit, bit_of, byte_of, bytes_of, pixel, black, picture, repaint}
use Rattle.pixels.specs.Regions.{within}
use Rattle.strip_chart.specs.Strips.{entering, source, shifted, shifted_strip}

-- 1101 1010 becomes 1011 0100, and nothing beside it moves
left : shifted_strip false 4 0 11 0 (13 ∷ 175 ∷ replicate 28 255) ≡ 11 ∷ 79 ∷ replicate 28 255
unfolding repaint picture bytes_of byte_of digit pixel black bit_of within entering source shifted
left = refl

-- 1101 1010 becomes 0110 1101
right : shifted_strip true 4 0 11 0 (13 ∷ 175 ∷ replicate 28 255) ≡ 6 ∷ 223 ∷ replicate 28 255
unfolding repaint picture bytes_of byte_of digit pixel black bit_of within entering source shifted
right = refl
