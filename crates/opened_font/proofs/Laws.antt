-- Which characters a font has, and where their rows are.
-- Assumes nothing.
use mathlib.Core.Path.{◌≡◌, refl, ap}
use mathlib.Core.List.{List}
use mathlib.Core.Bool.{Bool, true, false, cond, ◌&&◌}
use Prim.Native.Nat.{ℕ, ◌-◌, ◌≤◌}
use native.Mathlib.Omega.{arith}
use lib.Dec.{leb}
use borrow.Author.Tests.{le-leb, leb-true}
use Rattle.fonts.specs.Fonts.{height_of, first_of, last_of, offset_at, width_at, is_font}
use Rattle.fonts.proofs.Laws.{and_left, and_right, Within, Inside, font}
use Rattle.std.specs.Prelude.{Some, None}
use Rattle.opened_font.specs.declared.Glyph.{Glyph}
use Rattle.opened_font.specs.Glyphs.{glyph_in, glyph_of}

abbrev pub glyph : ℕ → ℕ → ℕ → Glyph
glyph o w h = record { offset = o; width = w; height = h }

-- the characters of a font, and no other, have a glyph
pub glyph_there : (s : List ℕ) (c : ℕ) → first_of s ≤ c → c ≤ last_of s → glyph_of s c ≡ Some (glyph (offset_at s (c - first_of s)) (width_at s (c - first_of s)) (height_of s))
unfolding glyph_of glyph_in
glyph_there s c h k = rw (le-leb (first_of s) c h, le-leb c (last_of s) k)

pub glyph_missing : (s : List ℕ) (c : ℕ) → (leb (first_of s) c && leb c (last_of s)) ≡ false → glyph_of s c ≡ None
unfolding glyph_of glyph_in
glyph_missing s c e = rw e

pub record Character (s : List ℕ) (c o w h : ℕ) : Type 0 where
  pub among : Within (first_of s) (last_of s) c
  pub offset : o ≡ offset_at s (c - first_of s)
  pub width : w ≡ width_at s (c - first_of s)
  pub height : h ≡ height_of s

same_glyph : {g k : Glyph} → Some g ≡ Some k → k ≡ g
same_glyph e = cc

from_test : (s : List ℕ) (c o w h : ℕ) (t : Bool) → (leb (first_of s) c && leb c (last_of s)) ≡ t
    → cond t (Some (glyph (offset_at s (c - first_of s)) (width_at s (c - first_of s)) (height_of s))) None ≡ Some (glyph o w h) → Character s c o w h
from_test s c o w h true t e =
    record {
      among = record {
        from = leb-true (first_of s) c (and_left (leb (first_of s) c) (leb c (last_of s)) t);
        to = leb-true c (last_of s) (and_right (leb (first_of s) c) (leb c (last_of s)) t);
      };
      offset = ap (λ (g : Glyph). g.offset) (same_glyph e);
      width = ap (λ (g : Glyph). g.width) (same_glyph e);
      height = ap (λ (g : Glyph). g.height) (same_glyph e);
    }
from_test s c o w h false t e = cc

-- a glyph that is found is that of a character from the first to the last
pub glyph_of_character : (s : List ℕ) (c o w h : ℕ) → glyph_of s c ≡ Some (glyph o w h) → Character s c o w h
unfolding glyph_of glyph_in
glyph_of_character s c o w h e = from_test s c o w h (leb (first_of s) c && leb c (last_of s)) refl e

-- A GLYPH FOUND IN A GOOD FONT is 1 to 240 wide, and its rows are inside the file
pub glyph_inside : (m : ℕ) (s : List ℕ) → is_font m s ≡ true → (c o w h : ℕ) → glyph_of s c ≡ Some (glyph o w h) → Inside s o w
glyph_inside m s f c o w h e =
    let g = glyph_of_character s c o w h e in
    let a = g.among.from in
    let b = g.among.to in
    rw (g.offset, g.width) ((font m s f).entries (c - first_of s) (omega arith))

-- and each of its characters, of which there is one at least, is found
pub glyph_found : (m : ℕ) (s : List ℕ) → is_font m s ≡ true → (c : ℕ) → first_of s ≤ c → c ≤ last_of s
    → (glyph_of s c ≡ Some (glyph (offset_at s (c - first_of s)) (width_at s (c - first_of s)) (height_of s))) × Inside s (offset_at s (c - first_of s)) (width_at s (c - first_of s))
glyph_found m s h c a b = (glyph_there s c a b, glyph_inside m s h c _ _ _ (glyph_there s c a b))
