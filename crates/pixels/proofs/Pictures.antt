-- A framebuffer is known by its pixels.
-- Assumes nothing.
use mathlib.Core.Path.{◌≡◌, refl, sym, ap, ◌∙◌}
use mathlib.Core.Bool.{Bool, false, cond}
use mathlib.Core.List.{List}
use Prim.Native.Nat.{ℕ, zero, suc, ◌+◌, ◌*◌, ◌/◌, ◌%◌, ◌<◌, ◌≤◌}
use native.Mathlib.Omega.{arith}
use native.Mathlib.Nat.{le_of_suc-le-suc, not-suc-le-zero}
use native.Mathlib.Decide.{dec_lt, ℕ_discrete}
use lib.Dec.{eqb}
use lib.ListN.{length, get_or, set, length-set, get_or-eq_default}
use lib.Seq.{ext_get_or, get_or-set_same, get_or-set_other, set_out}
use borrow.Author.Tests.{eq-eqb, ne_eqb}
use Rattle.pixels.specs.Framebuffer.{Picture, On, cell, bit_of, byte_of, bytes_of, pixel, picture, width}
use Rattle.pixels.proofs.Bits.{byte_lt, bit_byte, bit_zero, byte_bit, byte_same}

-- every number of the list is a byte
abbrev pub Bytes : List ℕ → Type 0
Bytes g = (i : ℕ) → get_or g i 0 < 256

length-bytes : (p : ℕ → Bool) (i n : ℕ) → length (bytes_of p i n) ≡ n
unfolding bytes_of
length-bytes p i zero = refl
length-bytes p i (suc n) = ap suc (length-bytes p (suc i) n)

get_or-bytes : (p : ℕ → Bool) (i n j : ℕ) → j < n → get_or (bytes_of p i n) j 0 ≡ byte_of (λ k. p (8 * (i + j) + k))
unfolding bytes_of
get_or-bytes p i zero j h = absurd (not-suc-le-zero h)
get_or-bytes p i (suc n) zero h = let e : i ≡ i + 0 = omega arith in rw (← e)
get_or-bytes p i (suc n) (suc j) h =
    let e : suc i + j ≡ i + suc j = omega arith in
    get_or-bytes p (suc i) n j (le_of_suc-le-suc h) ∙ rw e

pub length-picture : (p : Picture) (n : ℕ) → length (picture p n) ≡ n
unfolding picture
length-picture p n = length-bytes (λ m. p (m % width) (m / width)) 0 n

-- byte j of a picture
pub get_or-picture : (p : Picture) (n j : ℕ) → j < n → get_or (picture p n) j 0 ≡ byte_of (λ k. p (8 * (j % 30) + k) (j / 30))
unfolding picture
get_or-picture p n j h =
    get_or-bytes (λ m. p (m % width) (m / width)) 0 n j h
    ∙ byte_same (λ k. p ((8 * (0 + j) + k) % width) ((8 * (0 + j) + k) / width)) (λ k. p (8 * (j % 30) + k) (j / 30))
    (λ k l. let a : (8 * (0 + j) + k) % width ≡ 8 * (j % 30) + k = omega arith in
    let b : (8 * (0 + j) + k) / width ≡ j / 30 = omega arith in rw (a, b))

pub bytes_picture : (p : Picture) (n : ℕ) → Bytes (picture p n)
bytes_picture p n i =
    elim (dec_lt i n) [
      | yes h ↦ rw (get_or-picture p n i h) (byte_lt (λ k. p (8 * (i % 30) + k) (i / 30)))
      | no h ↦ rw (get_or-eq_default (picture p n) 0 {n = i} (rw (length-picture p n) (omega arith))) (omega arith)
    ]

pub pixel_picture : (p : Picture) (n x y : ℕ) → On n x y → pixel (picture p n) x y ≡ p x y
unfolding pixel
pixel_picture p n x y on =
    rw (get_or-picture p n (30 * y + x / 8) on.1, bit_byte (λ k. p (8 * ((30 * y + x / 8) % 30) + k) ((30 * y + x / 8) / 30)) (x % 8) (omega arith))
    (let a : 8 * ((30 * y + x / 8) % 30) + x % 8 ≡ x = omega arith in
    let b : (30 * y + x / 8) / 30 ≡ y = omega arith in rw (a, b))

pub picture_same : (p q : Picture) (n : ℕ) → ((x y : ℕ) → On n x y → p x y ≡ q x y) → picture p n ≡ picture q n
picture_same p q n e =
    ext_get_or 0 (picture p n) (picture q n) (length-picture p n ∙ sym (length-picture q n))
    (λ j l. let h : j < n = rw (length-picture p n) at l in
    get_or-picture p n j h
    ∙ byte_same (λ k. p (8 * (j % 30) + k) (j / 30)) (λ k. q (8 * (j % 30) + k) (j / 30)) (λ k m. e (8 * (j % 30) + k) (j / 30) (omega arith))
    ∙ sym (get_or-picture q n j h))

-- a framebuffer is the picture of its pixels
pub picture_pixel : (g : List ℕ) → Bytes g → picture (pixel g) (length g) ≡ g
unfolding pixel
picture_pixel g b =
    ext_get_or 0 (picture (pixel g) (length g)) g (length-picture (pixel g) (length g))
    (λ j l. let h : j < length g = rw (length-picture (pixel g) (length g)) at l in
    get_or-picture (pixel g) (length g) j h
    ∙ byte_same (λ k. pixel g (8 * (j % 30) + k) (j / 30)) (bit_of (get_or g j 0)) (λ k m.
    let a : 30 * (j / 30) + (8 * (j % 30) + k) / 8 ≡ j = omega arith in
    let c : (8 * (j % 30) + k) % 8 ≡ k = omega arith in rw (a, c))
    ∙ byte_bit (get_or g j 0) (b j))

pub is_picture : (g : List ℕ) (p : Picture) (n : ℕ) → length g ≡ n → Bytes g → ((x y : ℕ) → On n x y → pixel g x y ≡ p x y) → g ≡ picture p n
is_picture g p n l b e = sym (picture_pixel g b) ∙ rw l (picture_same (pixel g) p n e)

-- EQUALITY BY PIXELS: two framebuffers of one length whose pixels agree are the same bytes
pub ext_pixel : (g h : List ℕ) → length g ≡ length h → Bytes g → Bytes h → ((x y : ℕ) → On (length g) x y → pixel g x y ≡ pixel h x y) → g ≡ h
ext_pixel g h l b d e = is_picture g (pixel h) (length h) l b (λ x y on. e x y (on.0, omega arith)) ∙ picture_pixel h d

-- behind the last byte all is white
pub pixel_behind : (g : List ℕ) (x y : ℕ) → length g ≤ cell x y → pixel g x y ≡ false
unfolding pixel
pixel_behind g x y h = rw (get_or-eq_default g 0 {n = 30 * y + x / 8} h) (bit_zero (x % 8))

-- ---- a byte stored

pixel_set : (g : List ℕ) (i b x y : ℕ) → i < length g
    → pixel (set g i b) x y ≡ cond (eqb (cell x y) i) (bit_of b (x % 8)) (pixel g x y)
unfolding pixel
pixel_set g i b x y h =
    elim (ℕ_discrete (cell x y) i) [
      | yes e ↦ rw (eq-eqb (cell x y) i e, e, get_or-set_same g i b 0 h)
      | no n ↦ rw (ne_eqb (cell x y) i n, get_or-set_other g i (cell x y) b 0 n)
    ]

bytes_set : (g : List ℕ) (i b : ℕ) → Bytes g → b < 256 → Bytes (set g i b)
bytes_set g i b h k j =
    elim (dec_lt i (length g)) [
      | yes l ↦ (elim (ℕ_discrete j i) [ yes e ↦ rw (e, get_or-set_same g i b 0 l) k | no n ↦ rw (get_or-set_other g i j b 0 n) (h j) ])
      | no n ↦ rw (set_out g i b (omega arith)) (h j)
    ]

-- a stored byte makes the picture p, where its own pixels are p's and all others were already
pub set_is : (g : List ℕ) (i b : ℕ) (p : Picture) → Bytes g → b < 256 → i < length g
    → ((x y : ℕ) → On (length g) x y → cond (eqb (cell x y) i) (bit_of b (x % 8)) (pixel g x y) ≡ p x y)
    → set g i b ≡ picture p (length g)
set_is g i b p h k l e =
    is_picture (set g i b) p (length g) (length-set g i b) (bytes_set g i b h k) (λ x y on. pixel_set g i b x y l ∙ e x y on)
