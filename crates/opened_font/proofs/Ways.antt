-- One law for each way through the lookup of a character.
-- Assumes nothing.
use mathlib.Core.Path.{◌≡◌}
use mathlib.Core.List.{List}
use Prim.Native.Nat.{ℕ, ◌-◌, ◌≤◌, ◌<◌}
use native.Mathlib.Omega.{arith}
use borrow.Author.Tests.{le-leb, lt-leb}
use Rattle.fonts.specs.declared.Entry.{Entry}
use Rattle.fonts.specs.Fonts.{last_of, entry_of}
use Rattle.std.specs.Prelude.{Some, None}
use Rattle.opened_font.specs.Glyphs.{glyph_in}

module _ (s : List ℕ) (h f c : ℕ) where
  pub below : c < f → None ≡ glyph_in s h f c
  unfolding glyph_in
  below b = rw (lt-leb f c b)

  module _ (l : ℕ) (from : f ≤ c) (last : l ≡ last_of s) where
    pub above : l < c → None ≡ glyph_in s h f c
    unfolding glyph_in
    above b = rw (le-leb f c from, lt-leb c (last_of s) (omega arith))

    pub among : (e : Entry) → c ≤ l → e ≡ entry_of s (c - f) → Some (record { offset = e.offset; width = e.width; height = h }) ≡ glyph_in s h f c
    unfolding glyph_in entry_of
    among e b d = rw (le-leb f c from, le-leb c (last_of s) (omega arith), d)
