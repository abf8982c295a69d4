-- Worked examples of scrolling, by computing, on a framebuffer of two rows.
-- Assumes nothing.
use mathlib.Core.Path.{◌≡◌, refl}
use mathlib.Core.List.{◌++◌}
use lib.ListN.{replicate}
use Rattle.pixels.specs.Framebuffer.{digit, bit_of, byte_of, bytes_of, pixel, picture, repaint}
use Rattle.scroll.specs.Scroll.{scrolled}

by_none : scrolled 0 (replicate 30 170 ++ replicate 30 15) ≡ replicate 30 170 ++ replicate 30 15
unfolding repaint picture bytes_of byte_of digit pixel bit_of
by_none = refl

by_one : scrolled 1 (replicate 30 170 ++ replicate 30 15) ≡ replicate 30 15 ++ replicate 30 0
unfolding repaint picture bytes_of byte_of digit pixel bit_of
by_one = refl

by_more : scrolled 3 (replicate 30 170 ++ replicate 30 15) ≡ replicate 60 0
unfolding repaint picture bytes_of byte_of digit pixel bit_of
by_more = refl
