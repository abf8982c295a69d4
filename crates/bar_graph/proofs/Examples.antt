-- Worked examples, by computing.
-- Assumes nothing.
use mathlib.Core.Path.{◌≡◌, refl, ◌∙◌}
use mathlib.Core.Bool.{true, not}
use mathlib.Core.List.{List, ◌∷◌, ◌++◌}
use Prim.Native.Nat.{ℕ, ◌+◌}
use native.Mathlib.Omega.{arith}
use lib.ListN.{replicate}
use Rattle.pixels.specs.Framebuffer.{digit, bit_of, byte_of, bytes_of, pixel, picture, repaint}
use Rattle.pixels.specs.Regions.{within, rectangle}
use Rattle.pixels.proofs.Tests.{all}
use Rattle.bar_graph.specs.declared.Bar.{Bar}
use Rattle.bar_graph.specs.Bars.{depth, length_of, held_to, full_picture, stripe, write_of, written_bar}
use Rattle.bar_graph.proofs.FullPictures.{full_whole, full_held}

abbrev pub bar : ℕ → ℕ → ℕ → ℕ → ℕ → ℕ → Bar
bar kind x1 y1 x2 y2 value = record { kind = kind; x1 = x1; y1 = y1; x2 = x2; y2 = y2; value = value }

-- two values written one after the other
abbrev pub twice : Bar → ℕ → ℕ → List ℕ → List ℕ
twice b v w g = write_of (written_bar b v) w (write_of b v g)

-- two rows of 0101.. , and two rows that begin with bytes a and b
abbrev pub before : List ℕ
before = replicate 60 85

abbrev pub begins : ℕ → ℕ → List ℕ
begins a b = a ∷ b ∷ replicate 28 85 ++ (a ∷ b ∷ replicate 28 85)

-- from the left at 0 0 9 1, written with 0 and then 3: columns 0 to 2 are black
pub left_three : twice (bar 1 0 0 9 1 0) 0 3 before ≡ begins 224 21
unfolding write_of stripe held_to length_of depth within repaint picture bytes_of byte_of digit pixel bit_of
left_three = refl

-- from the right: columns 7 to 9
pub right_three : twice (bar 3 0 0 9 1 0) 0 3 before ≡ begins 1 213
unfolding write_of stripe held_to length_of depth within repaint picture bytes_of byte_of digit pixel bit_of
right_three = refl

-- from the bottom and from the top: the lower row, the upper row
pub bottom_one : twice (bar 0 0 0 7 1 0) 0 1 before ≡ 0 ∷ replicate 29 85 ++ (255 ∷ replicate 29 85)
unfolding write_of stripe held_to length_of depth within repaint picture bytes_of byte_of digit pixel bit_of
bottom_one = refl

pub top_one : twice (bar 2 0 0 7 1 0) 0 1 before ≡ 255 ∷ replicate 29 85 ++ (0 ∷ replicate 29 85)
unfolding write_of stripe held_to length_of depth within repaint picture bytes_of byte_of digit pixel bit_of
top_one = refl

-- a write of 0 whitens the whole rectangle, also beyond the old value, which was 2
pub zero_whitens : write_of (bar 1 0 0 9 1 2) 0 before ≡ begins 0 21
unfolding write_of stripe held_to length_of depth within repaint picture bytes_of byte_of digit pixel bit_of
zero_whitens = refl

-- from 8 to 3: columns 3 to 7 are whitened, and no other pixel is touched, black or white
pub shrink_between : write_of (bar 1 0 0 9 1 8) 3 before ≡ begins 64 85
unfolding write_of stripe held_to length_of depth within repaint picture bytes_of byte_of digit pixel bit_of
shrink_between = refl

-- from 3 to 8: columns 3 to 7 are blackened
pub grow_between : write_of (bar 1 0 0 9 1 3) 8 before ≡ begins 95 85
unfolding write_of stripe held_to length_of depth within repaint picture bytes_of byte_of digit pixel bit_of
grow_between = refl

-- the value that is there already: nothing is painted
pub same_nothing : write_of (bar 1 0 0 9 1 3) 3 before ≡ before
unfolding write_of stripe held_to length_of depth within repaint picture bytes_of byte_of digit pixel bit_of
same_nothing = refl

-- from the bottom at 10 10 12 19, written with 255: the value is held to ten rows, and the whole rectangle, thirty pixels, is black
abbrev pub tall : Bar
tall = bar 0 10 10 12 19 0

pub held_ten : held_to tall 255 ≡ 10
unfolding held_to length_of
held_ten = refl

pub tall_whole : (x y : ℕ) → full_picture tall (held_to tall 255) x y ≡ rectangle 10 10 12 19 x y
unfolding length_of
tall_whole x y = full_held tall 255 x y ∙ full_whole tall 255 x y (omega arith)

pub thirty_black : all 3 (λ i. all 10 (λ j. full_picture tall (held_to tall 255) (10 + i) (10 + j))) ≡ true
unfolding full_picture held_to length_of depth within
thirty_black = refl

-- with 4: rows 16 to 19
pub four_black : all 3 (λ i. all 4 (λ j. full_picture tall 4 (10 + i) (16 + j))) ≡ true
unfolding full_picture depth within
four_black = refl

pub six_white : all 3 (λ i. all 6 (λ j. not (full_picture tall 4 (10 + i) (10 + j)))) ≡ true
unfolding full_picture depth within
six_white = refl
