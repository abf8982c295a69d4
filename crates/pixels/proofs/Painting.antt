-- Repainting and putting: one after another, in regions that agree, in none, beyond the framebuffer.
-- Assumes nothing.
use mathlib.Core.Path.{◌≡◌, refl, sym, ◌∙◌}
use mathlib.Core.Bool.{Bool, true, false, cond, ◌||◌}
use mathlib.Core.List.{List}
use Prim.Native.Nat.{ℕ}
use lib.ListN.{length}
use Rattle.pixels.specs.Framebuffer.{Region, Picture, On, pixel, repaint, put}
use Rattle.pixels.proofs.Pictures.{Bytes, length-picture, bytes_picture, pixel_picture, picture_same, picture_pixel, is_picture}

pub length-repaint : (f : ℕ → ℕ → Bool → Bool) (g : List ℕ) → length (repaint f g) ≡ length g
unfolding repaint
length-repaint f g = length-picture (λ x y. f x y (pixel g x y)) (length g)

pub bytes_repaint : (f : ℕ → ℕ → Bool → Bool) (g : List ℕ) → Bytes (repaint f g)
unfolding repaint
bytes_repaint f g = bytes_picture (λ x y. f x y (pixel g x y)) (length g)

pub pixel_repaint : (f : ℕ → ℕ → Bool → Bool) (g : List ℕ) (x y : ℕ) → On (length g) x y → pixel (repaint f g) x y ≡ f x y (pixel g x y)
unfolding repaint
pixel_repaint f g x y on = pixel_picture (λ x y. f x y (pixel g x y)) (length g) x y on

pub repaint_same : (f h : ℕ → ℕ → Bool → Bool) (g : List ℕ) → ((x y : ℕ) → On (length g) x y → f x y (pixel g x y) ≡ h x y (pixel g x y))
    → repaint f g ≡ repaint h g
unfolding repaint
repaint_same f h g e = picture_same (λ x y. f x y (pixel g x y)) (λ x y. h x y (pixel g x y)) (length g) e

-- TWO REPAINTS IN A ROW
pub repaint_repaint : (f h : ℕ → ℕ → Bool → Bool) (g : List ℕ) → repaint f (repaint h g) ≡ repaint (λ x y o. f x y (h x y o)) g
unfolding repaint
repaint_repaint f h g =
    rw (length-repaint h g)
    (picture_same (λ x y. f x y (pixel (repaint h g) x y)) (λ x y. f x y (h x y (pixel g x y))) (length g)
    (λ x y on. rw (pixel_repaint h g x y on)))

pub repaint_id : (f : ℕ → ℕ → Bool → Bool) (g : List ℕ) → Bytes g → ((x y : ℕ) → On (length g) x y → f x y (pixel g x y) ≡ pixel g x y)
    → repaint f g ≡ g
unfolding repaint
repaint_id f g b e = picture_same (λ x y. f x y (pixel g x y)) (pixel g) (length g) e ∙ picture_pixel g b

pub is_repaint : (g' : List ℕ) (f : ℕ → ℕ → Bool → Bool) (g : List ℕ) → length g' ≡ length g → Bytes g'
    → ((x y : ℕ) → On (length g) x y → pixel g' x y ≡ f x y (pixel g x y)) → g' ≡ repaint f g
unfolding repaint
is_repaint g' f g l b e = is_picture g' (λ x y. f x y (pixel g x y)) (length g) l b e

-- ---- put

pub pixel_put : (s : Region) (p : Picture) (g : List ℕ) (x y : ℕ) → On (length g) x y → pixel (put s p g) x y ≡ cond (s x y) (p x y) (pixel g x y)
pixel_put s p g x y on = pixel_repaint (λ x y o. cond (s x y) (p x y) o) g x y on

inside : (t a b o : Bool) → (t ≡ true → a ≡ b) → cond t a o ≡ cond t b o
inside true a b o e = e refl
inside false a b o e = refl

-- regions that agree on the framebuffer, with pictures that agree in them
pub put_same : (s t : Region) (p q : Picture) (g : List ℕ) → ((x y : ℕ) → On (length g) x y → s x y ≡ t x y)
    → ((x y : ℕ) → On (length g) x y → t x y ≡ true → p x y ≡ q x y) → put s p g ≡ put t q g
put_same s t p q g e f =
    repaint_same (λ x y o. cond (s x y) (p x y) o) (λ x y o. cond (t x y) (q x y) o) g
    (λ x y on. rw (e x y on) (inside (t x y) (p x y) (q x y) (pixel g x y) (f x y on)))

pub put_region : (s t : Region) (p : Picture) (g : List ℕ) → ((x y : ℕ) → On (length g) x y → s x y ≡ t x y) → put s p g ≡ put t p g
put_region s t p g e = put_same s t p p g e (λ x y on k. refl)

-- a region with no pixel on the framebuffer: nothing is painted
pub put_off : (s : Region) (p : Picture) (g : List ℕ) → Bytes g → ((x y : ℕ) → On (length g) x y → s x y ≡ false) → g ≡ put s p g
put_off s p g b e = sym (repaint_id (λ x y o. cond (s x y) (p x y) o) g b (λ x y on. rw (e x y on)))

either : (a b c o : Bool) → cond a c (cond b c o) ≡ cond (b || a) c o
either true true c o = refl
either true false c o = refl
either false true c o = refl
either false false c o = refl

-- one region after another, of one picture
pub put_put : (s t : Region) (p : Picture) (g : List ℕ) → put t p (put s p g) ≡ put (λ x y. s x y || t x y) p g
put_put s t p g =
    repaint_repaint (λ x y o. cond (t x y) (p x y) o) (λ x y o. cond (s x y) (p x y) o) g
    ∙ repaint_same (λ x y o. cond (t x y) (p x y) (cond (s x y) (p x y) o)) (λ x y o. cond (s x y || t x y) (p x y) o) g
    (λ x y on. either (t x y) (s x y) (p x y) (pixel g x y))
