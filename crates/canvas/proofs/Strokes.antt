-- What a mask on a byte paints, and which mask is a pixel.
-- Assumes nothing.
use mathlib.Core.Path.{◌≡◌, refl, sym, ◌∙◌}
use mathlib.Core.Bool.{Bool, true, false, cond, ◌&&◌, ◌||◌, not, and-false}
use mathlib.Core.List.{List}
use Prim.Native.Nat.{ℕ, ◌+◌, ◌-◌, ◌*◌, ◌/◌, ◌%◌, ◌^◌, ◌<◌, ◌≤◌}
use native.Mathlib.Omega.{arith}
use native.Mathlib.Decide.{ℕ_discrete}
use lib.Dec.{eqb}
use lib.Bits.{bit_and, bit_or, and_le_l, or_lt}
use lib.ListN.{length, get_or, set}
use borrow.Author.Tests.{eq-eqb, ne_eqb, lt-ltb, le-ltb}
use Rattle.pixels.specs.Framebuffer.{Picture, On, bit_of, byte_of, cell, pixel, black, repaint, put, fill, width}
use Rattle.pixels.specs.Regions.{point}
use Rattle.pixels.proofs.Bits.{byte_lt, byte_is, bit_byte, bit_or_lem, bit_and_lem, bit_not, bit_one}
use Rattle.pixels.proofs.Pictures.{Bytes, set_is}
use Rattle.pixels.proofs.Painting.{put_off, put_region}
use Rattle.canvas.specs.Canvas.{masked, painted_of}
use Rattle.canvas.specs.Colour.{colour, colour_of}

or_black : (a t : Bool) → (a || t) ≡ cond t true a
or_black true true = refl
or_black true false = refl
or_black false true = refl
or_black false false = refl

and_white : (a t : Bool) → (a && not t) ≡ cond t false a
and_white true true = refl
and_white true false = refl
and_white false true = refl
and_white false false = refl

pub paint_black : (b m : ℕ) (t : Bool) → b < 256 → m < 256 → t ≡ true → bit_or b m ≡ painted_of b m t
unfolding painted_of
paint_black b m t h k q =
    rw q (byte_is (bit_or b m) (λ j. cond (bit_of m j) true (bit_of b j)) (or_lt 8 b m h k) (λ j l. bit_or_lem b m j ∙ or_black (bit_of b j) (bit_of m j)))

pub paint_white : (b m : ℕ) (t : Bool) → b < 256 → m < 256 → t ≡ false → bit_and b (255 - m) ≡ painted_of b m t
unfolding painted_of
paint_white b m t h k q =
    rw q (byte_is (bit_and b (255 - m)) (λ j. cond (bit_of m j) false (bit_of b j)) (omega (arith, and_le_l b (255 - m)))
    (λ j l. bit_and_lem b (255 - m) j ∙ rw (bit_not m j k l) (and_white (bit_of b j) (bit_of m j))))

-- a byte stored whose bits under the mask are q's
pub set_masked : (g : List ℕ) (i m b : ℕ) (q : ℕ → Bool) → Bytes g → i < length g → b ≡ byte_of (λ j. cond (bit_of m j) (q j) (bit_of (get_or g i 0) j))
    → set g i b ≡ put (masked i m) (λ u v. q (u % 8)) g
unfolding pixel repaint
set_masked g i m b q h l e =
    rw e (set_is g i (byte_of (λ j. cond (bit_of m j) (q j) (bit_of (get_or g i 0) j))) (λ u v. cond (eqb (30 * v + u / 8) i && bit_of m (u % 8)) (q (u % 8)) (pixel g u v)) h
    (byte_lt (λ j. cond (bit_of m j) (q j) (bit_of (get_or g i 0) j))) l
    (λ u v on. elim (ℕ_discrete (30 * v + u / 8) i) [
      | yes d ↦ rw (d, eq-eqb i i refl) (bit_byte (λ j. cond (bit_of m j) (q j) (bit_of (get_or g i 0) j)) (u % 8) (omega arith))
      | no d ↦ rw (ne_eqb (30 * v + u / 8) i d)
    ]))

-- behind the framebuffer there is none
pub masked_off : (g : List ℕ) (i m : ℕ) (p : Picture) → Bytes g → length g ≤ i → g ≡ put (masked i m) p g
masked_off g i m p h l = put_off (masked i m) p g h (λ u v on. rw (ne_eqb (30 * v + u / 8) i (omega arith)))

pub stamp_on : (g : List ℕ) (i m b : ℕ) (c : Bool) → Bytes g → i < length g → b ≡ painted_of (get_or g i 0) m c → set g i b ≡ fill (masked i m) c g
unfolding painted_of
stamp_on g i m b c h l e = set_masked g i m b (λ j. c) h l e

pub stamp_off : (g : List ℕ) (i m : ℕ) (c : Bool) → Bytes g → length g ≤ i → g ≡ fill (masked i m) c g
stamp_off g i m c h l = masked_off g i m (λ u v. c) h l

-- the mask of one bit is one pixel
pub plot_on : (g g' : List ℕ) (x y i : ℕ) (c : Bool) → x < width → i ≡ cell x y → g' ≡ fill (masked i (128 / 2 ^ (x % 8))) c g → g' ≡ fill (point x y) c g
plot_on g g' x y i c hx ei e =
    e ∙ rw ei (put_region (masked (30 * y + x / 8) (128 / 2 ^ (x % 8))) (point x y) (λ u v. c) g
    (λ u v on. rw (bit_one (x % 8) (u % 8) (omega arith) (omega arith)) (elim (ℕ_discrete u x) [
      | yes p ↦ rw (eq-eqb u x p, p, eq-eqb (x % 8) (x % 8) refl) (row u v on p)
      | no p ↦ rw (ne_eqb u x p) (elim (ℕ_discrete (u % 8) (x % 8)) [
        | yes q ↦ rw (ne_eqb (30 * v + u / 8) (30 * y + x / 8) (omega arith))
        | no q ↦ rw (ne_eqb (u % 8) (x % 8) q) (and-false (eqb (30 * v + u / 8) (30 * y + x / 8)))
      ])
    ])))
  where
    row : (u v : ℕ) → On (length g) u v → u ≡ x → (eqb (30 * v + x / 8) (30 * y + x / 8) && true) ≡ (true && eqb v y)
    row u v on p =
        elim (ℕ_discrete v y) [
          | yes q ↦ rw (eq-eqb v y q, eq-eqb (30 * v + x / 8) (30 * y + x / 8) (omega arith))
          | no q ↦ rw (ne_eqb v y q, ne_eqb (30 * v + x / 8) (30 * y + x / 8) (omega arith))
        ]

pub plot_off : (g : List ℕ) (x y : ℕ) (c : Bool) → Bytes g → width ≤ x → g ≡ fill (point x y) c g
plot_off g x y c h l = put_off (point x y) (λ u v. c) g h (λ u v on. rw (ne_eqb u x (omega arith)))

-- ---- reading

pub black_on : (g : List ℕ) (x y i : ℕ) → x < width → i ≡ cell x y → eqb (get_or g i 0 / 2 ^ (7 - x % 8) % 2) 1 ≡ black g x y
unfolding black pixel bit_of
black_on g x y i h e = rw (e, lt-ltb x width h)

pub black_right : (g : List ℕ) (x y : ℕ) → width ≤ x → false ≡ black g x y
unfolding black
black_right g x y h = sym (rw (le-ltb x width h))

-- ---- the rule from a byte to a colour

pub zero_white : (n : ℕ) → n ≡ 0 → colour false ≡ colour_of n
zero_white n e = rw e

pub non_zero_black : (n : ℕ) → (n ≡ 0 → ⊥) → colour true ≡ colour_of n
non_zero_black n e = rw (ne_eqb n 0 e)
