-- Where a character goes: the ways of its wrap and of its room, and the character drawn there.
-- Assumes nothing.
use mathlib.Core.Path.{◌≡◌, ◌∙◌, refl, sym, ap}
use mathlib.Core.Bool.{Bool, true, false, cond, not, ◌&&◌}
use mathlib.Core.List.{List, []}
use native.Mathlib.Omega.{arith}
use Prim.Native.Nat.{ℕ, zero, suc, ◌+◌, ◌-◌, ◌*◌, ◌/◌, ◌%◌, ◌<◌, ◌≤◌}
use lib.Dec.{leb}
use lib.ListN.{get_or, drop}
use lib.Seq.{get_or-drop}
use borrow.Author.Tests.{le-leb, lt-leb, leb-true}
use Rattle.std.specs.Prelude.{Option, Some, None}
use Rattle.file_laws.proofs.Written.{and_both}
use Rattle.pixels.specs.Framebuffer.{bit_of, width, put, fill}
use Rattle.pixels.specs.Regions.{within, box}
use Rattle.pixels.proofs.Intervals.{within_true}
use Rattle.pixels.proofs.Painting.{put_same}
use Rattle.spans.specs.Bits.{packed_bit}
use Rattle.bitmap.specs.Bitmaps.{packed, packed_box}
use Rattle.fonts.specs.Fonts.{nominal_width, height_of}
use Rattle.opened_font.specs.declared.Glyph.{Glyph}
use Rattle.opened_font.specs.Glyphs.{glyph_of}
use Rattle.opened_font.proofs.Laws.{glyph_missing}
use Rattle.builtin_font.specs.Table.{table}
use Rattle.builtin_font.specs.Shapes.{five_from, rows_of}
use Rattle.builtin_font.proofs.Rules.{width_is, height_is, first_is, last_is, glyph_of_lem}
use Rattle.builtin_font.proofs.Characters.{rows_are}
use Rattle.state.specs.declared.State.{State}
use Rattle.state.specs.declared.Text.{Text}
use Rattle.rules.specs.World.{World, world, port, with_framebuffer, put_text, quietly, refused}
use Rattle.rules.specs.Fonts.{opened, shut, open_font}
use Rattle.rules.specs.Text.{at_point, Place as Ruled, place, nowhere, wrapped, fitted, moved_up, is_ignored, Ink, rows, solid, inked, drawn, missing, drawn_by, drawn_at, drawn_on, character_in, character}
use Rattle.characters.specs.declared.Place.{Place}
use Rattle.characters.specs.Places.{place_of, moved_for}

abbrev pub at : ℕ → ℕ → ℕ → Place
at x y u = record { x = x; y = y; up = u }

-- ---- the wrap

module _ (t : Text) (v f x y u : ℕ) where
  pub wrap_here : x ≡ t.x → y ≡ t.y → u ≡ 0 → t.x + v ≤ width → Some (at x y u) ≡ place_of (wrapped t v f)
  unfolding wrapped place_of
  wrap_here ex ey eu a = rw (le-leb (t.x + v) width a, ex, ey, eu)

  module _ (far : width < t.x + v) where
    pub wrap_nowhere : not t.wrap ≡ true → None ≡ place_of (wrapped t v f)
    unfolding wrapped place_of
    wrap_nowhere a = rw (lt-leb (t.x + v) width far, a)

    module _ (on : not t.wrap ≡ false) (ex : x ≡ t.left) where
      pub wrap_below : y ≡ t.y + f + t.line_space → u ≡ 0 → t.y + f + t.line_space + f ≤ t.scroll_row → Some (at x y u) ≡ place_of (wrapped t v f)
      unfolding wrapped place_of
      wrap_below ey eu a = rw (lt-leb (t.x + v) width far, on, le-leb (t.y + f + t.line_space + f) t.scroll_row a, ex, ey, eu)

      module _ (low : t.scroll_row < t.y + f + t.line_space + f) where
        pub wrap_up : y ≡ t.y → u ≡ f + t.line_space → t.scroll ≡ true → Some (at x y u) ≡ place_of (wrapped t v f)
        unfolding wrapped place_of
        wrap_up ey eu b = rw (lt-leb (t.x + v) width far, on, lt-leb (t.y + f + t.line_space + f) t.scroll_row low, b, ex, ey, eu)

        pub wrap_top : y ≡ t.top → u ≡ 0 → t.scroll ≡ false → Some (at x y u) ≡ place_of (wrapped t v f)
        unfolding wrapped place_of
        wrap_top ey eu b = rw (lt-leb (t.x + v) width far, on, lt-leb (t.y + f + t.line_space + f) t.scroll_row low, b, ex, ey, eu)

-- ---- the room

same_place : {c o : Place} → Some c ≡ Some o → c ≡ o
same_place e = cc

at_is : (p : Ruled) (o : Place) → place_of p ≡ Some o → p ≡ place o.x o.y o.up
unfolding place_of
at_is (place a b c) o e = ap (λ (q : Place). place q.x q.y q.up) (same_place e)
at_is nowhere o e = cc

nowhere_is : (p : Ruled) → place_of p ≡ None → p ≡ nowhere
unfolding place_of
nowhere_is (place a b c) e = cc
nowhere_is nowhere e = refl

module _ (h v f : ℕ) (p : Ruled) (c : Option Place) (found : c ≡ place_of p) where
  pub room_nowhere : c ≡ None → None ≡ place_of (fitted h v f p)
  unfolding fitted place_of
  room_nowhere e = rw (nowhere_is p (sym found ∙ e))

  module _ (o : Place) (here : c ≡ Some o) where
    pub room_right : width < o.x + v → None ≡ place_of (fitted h v f p)
    unfolding fitted place_of
    room_right a = rw (at_is p o (sym found ∙ here), lt-leb (o.x + v) width a)

    pub room_below : o.x + v ≤ width → h < o.y + f → None ≡ place_of (fitted h v f p)
    unfolding fitted place_of
    room_below a b = rw (at_is p o (sym found ∙ here), le-leb (o.x + v) width a, lt-leb (o.y + f) h b)

    pub room_here : o.x + v ≤ width → o.y + f ≤ h → Some o ≡ place_of (fitted h v f p)
    unfolding fitted place_of
    room_here a b = rw (at_is p o (sym found ∙ here), le-leb (o.x + v) width a, le-leb (o.y + f) h b)

-- what a place with room gives
pub record Fits (h v f x y : ℕ) : Type 0 where
  pub right : x + v ≤ width
  pub below : y + f ≤ h

fits_by : (h v f a b u x y k : ℕ) (t : Bool) → (leb (a + v) width && leb (b + f) h) ≡ t → cond t (place a b u) nowhere ≡ place x y k → Fits h v f x y
fits_by h v f a b u x y k true e d =
    let q = and_both (leb (a + v) width) (leb (b + f) h) e in
    let ex : a ≡ x = cc in
    let ey : b ≡ y = cc in
    record { right = omega (arith, ex, leb-true (a + v) width q.0); below = omega (arith, ey, leb-true (b + f) h q.1) }
fits_by h v f a b u x y k false e d = let z : ◌≡◌ {A = ℕ} 0 1 = cc in absurd (omega arith)

room_fits : (h v f : ℕ) (p : Ruled) (x y u : ℕ) → fitted h v f p ≡ place x y u → Fits h v f x y
unfolding fitted
room_fits h v f (place a b c) x y u e = fits_by h v f a b c x y u (leb (a + v) width && leb (b + f) h) refl e
room_fits h v f nowhere x y u e = let z : ◌≡◌ {A = ℕ} 0 1 = cc in absurd (omega arith)

pub fits : (h v f : ℕ) (p : Ruled) (c : Option Place) (o : Place) → c ≡ place_of (fitted h v f p) → c ≡ Some o → Fits h v f o.x o.y
fits h v f p c o e d = room_fits h v f p o.x o.y o.up (at_is (fitted h v f p) o (sym e ∙ d))

-- ---- the character

pub room_none : (c : Option Place) (p : Ruled) (g : List ℕ) → c ≡ place_of p → c ≡ None → (None ≡ place_of p) × (g ≡ moved_for None g)
unfolding moved_for
room_none c p g f e = (sym e ∙ f, refl)

pub room_made : (c : Option Place) (p : Ruled) (o : Place) (g h : List ℕ) → c ≡ place_of p → c ≡ Some o → h ≡ moved_up o.up g → (Some o ≡ place_of p) × (h ≡ moved_for (Some o) g)
unfolding moved_for
room_made c p o g h f e m = (sym e ∙ f, m)

moved_by : (c : Option Place) (o : Place) (g h : List ℕ) → c ≡ Some o → h ≡ moved_for c g → h ≡ moved_up o.up g
unfolding moved_for
moved_by c o g h e f = f ∙ rw e

pub moved_none : (c : Option Place) (g h : List ℕ) → c ≡ None → h ≡ moved_for c g → h ≡ g
unfolding moved_for
moved_none c g h e f = f ∙ rw e

module _ (g s : List ℕ) (st : State) (i : Ink) (v f : ℕ) (c : Option Place) (found : c ≡ place_of (fitted st.config.height v f (wrapped st.port.text v f))) where
  pub drawn_29 : c ≡ None → drawn_on (world g s st) (drawn i v f) ≡ refused 29 []
  unfolding drawn_on drawn_at
  drawn_29 e = rw (nowhere_is (fitted st.config.height v f (wrapped st.port.text v f)) (sym found ∙ e))

  pub drawn_done : (o : Place) (g' g'' : List ℕ) → c ≡ Some o → g' ≡ moved_for c g → g'' ≡ put (box o.x (o.x + v) o.y (o.y + f)) (inked i o.x o.y v) g'
      → drawn_on (world g s st) (drawn i v f) ≡ quietly (put_text (world g'' s st) (at_point st.port.text (o.x + v + st.port.text.char_space) o.y))
  unfolding drawn_on drawn_at
  drawn_done o g' g'' e up paint = rw (at_is (fitted st.config.height v f (wrapped st.port.text v f)) o (sym found ∙ e), paint, moved_by c o g g' e up)

-- all of a box black
pub box_filled : (x y v f a b d : ℕ) (g h : List ℕ) → a ≡ v → b ≡ y → d ≡ f → h ≡ fill (box x (x + a) b (b + d)) true g → h ≡ put (box x (x + v) y (y + f)) (inked solid x y v) g
box_filled x y v f a b d g h ea eb ed e = e ∙ rw (ea, eb, ed)

-- ---- of a font's file

module _ (w : World) (b : ℕ) (l : List ℕ) (q : Option Glyph) (glyph : q ≡ glyph_of l b) where
  pub draw_lacked : (v f : ℕ) → q ≡ None → v ≡ nominal_width l → f ≡ height_of l → character_in w b (opened l) ≡ drawn_on w (missing b v f)
  unfolding character_in drawn_by
  draw_lacked v f e ev ef = rw (← glyph, e, ev, ef)

  pub draw_there : (k : Glyph) (bits : List ℕ) → q ≡ Some k → bits ≡ drop k.offset l → character_in w b (opened l) ≡ drawn_on w (drawn (rows bits) k.width k.height)
  unfolding character_in drawn_by
  draw_there k bits e d = rw (← glyph, e, d)

-- ---- of the built-in font, from its five bytes

five_byte : (o j : ℕ) → j < 5 → get_or (drop o table) j 0 ≡ get_or (five_from o) j 0
five_byte o zero h = let z : o + 0 ≡ o = omega arith in get_or-drop o table 0 0 ∙ ap (λ (i : ℕ). get_or table i 0) z
five_byte o (suc zero) h = get_or-drop o table 1 0
five_byte o (suc (suc zero)) h = get_or-drop o table 2 0
five_byte o (suc (suc (suc zero))) h = get_or-drop o table 3 0
five_byte o (suc (suc (suc (suc zero)))) h = get_or-drop o table 4 0
five_byte o (suc (suc (suc (suc (suc j))))) h = absurd (omega arith)

five_bit : (o k : ℕ) → k < 40 → packed_bit (drop o table) k ≡ packed_bit (five_from o) k
unfolding packed_bit
five_bit o k h = ap (λ (b : ℕ). bit_of b (k % 8)) (five_byte o (k / 8) (omega arith))

five_picture : (o x y : ℕ) (g : List ℕ) → packed_box x y 5 7 (drop o table) g ≡ packed_box x y 5 7 (five_from o) g
unfolding packed
five_picture o x y g =
    put_same (box x (x + 5) y (y + 7)) (box x (x + 5) y (y + 7)) (packed x y 5 (drop o table)) (packed x y 5 (five_from o)) g (λ u v on. refl)
    (λ u v on e. let q = and_both (within x (x + 5) u) (within y (y + 7) v) e in
    let a = within_true x (x + 5) u q.0 in
    let b = within_true y (y + 7) v q.1 in
    five_bit o ((v - y) * 5 + (u - x)) (omega (arith, a.0, a.1, b.0, b.1)))

five_glyph : (w : World) (o : ℕ) (p : Ruled) → drawn_at w (rows (drop o table)) 5 7 p ≡ drawn_at w (rows (five_from o)) 5 7 p
unfolding drawn_at
five_glyph w o (place x y u) =
    ap (λ (g : List ℕ). quietly (put_text (with_framebuffer w g) (at_point (port w).text (x + 5 + (port w).text.char_space) y))) (five_picture o x y (moved_up u w.framebuffer))
five_glyph w o nowhere = refl

module _ (w : World) (b : ℕ) where
  no_glyph_lem : (leb 32 b && leb b 126) ≡ false → glyph_of table b ≡ None
  no_glyph_lem e = glyph_missing table b (rw (first_is, last_is) e)

  pub built_in_lacked : (t : Bool) → t ≡ (leb 32 b && leb b 126) → t ≡ false → character_in w b (opened table) ≡ drawn_on w (missing b 5 7)
  built_in_lacked t f e = draw_lacked w b table (glyph_of table b) refl 5 7 (no_glyph_lem (sym f ∙ e)) (sym width_is) (sym height_is)

  pub built_in_there : (t : Bool) (l : List ℕ) → t ≡ (leb 32 b && leb b 126) → t ≡ true → l ≡ rows_of b → character_in w b (opened table) ≡ drawn_on w (drawn (rows l) 5 7)
  unfolding character_in drawn_by drawn_on
  built_in_there t l f i e =
      let q = and_both (leb 32 b) (leb b 126) (sym f ∙ i) in
      let h = leb-true 32 b q.0 in
      let k = leb-true b 126 q.1 in
      rw (glyph_of_lem b h k, e, rows_are b h k) (five_glyph w (289 + 5 * (b - 32)) _)

-- ---- that a font lacks

module _ (w : World) (b v f : ℕ) (t : Bool) (found : t ≡ is_ignored b) where
  pub missing_ignored : t ≡ true → drawn_on w (missing b v f) ≡ quietly w
  unfolding missing drawn_on
  missing_ignored e = rw (← found, e)

  pub missing_boxed : t ≡ false → drawn_on w (missing b v f) ≡ drawn_on w (drawn solid v f)
  unfolding missing
  missing_boxed e = rw (← found, e)

-- ---- of the current font

module _ (g s : List ℕ) (st : State) (c : ℕ) where
  pub character_shut : (k : ℕ) → open_font st.config.height s st.port.text.font ≡ shut k → character (world g s st) c ≡ refused k []
  unfolding character character_in
  character_shut k e = rw e

  pub character_opened : (l : List ℕ) → open_font st.config.height s st.port.text.font ≡ opened l → character (world g s st) c ≡ character_in (world g s st) c (opened l)
  unfolding character
  character_opened l e = rw e
