-- Text on a good world leaves a good one: the text point, the settings, the font, characters.
-- Assumes nothing.
use mathlib.Core.Bool.{Bool, ◌&&◌, ◌||◌}
use mathlib.Core.List.{List}
use Prim.Native.Nat.{ℕ, ◌+◌, ◌≤◌, ◌<◌}
use native.Mathlib.Omega.{arith}
use lib.Dec.{eqb, leb}
use lib.ListN.{take, drop}
use borrow.Author.Tests.{leb-true, leb-false}
use Rattle.refusals.specs.Refusals.{Given}
use Rattle.pixels.specs.Framebuffer.{width}
use Rattle.pixels.proofs.Tests.{by_test, or_one, or_two}
use Rattle.pixels.proofs.Painting.{bytes_repaint}
use Rattle.std.specs.Prelude.{Option, Some, None}
use Rattle.directory.specs.declared.Location.{Location}
use Rattle.directory.specs.Directory.{find_of}
use Rattle.fonts.specs.Fonts.{is_font}
use Rattle.opened_font.specs.Glyphs.{glyph_of}
use Rattle.file_laws.proofs.Written.{and_both}
use Rattle.queue.specs.Record.{Bytes}
use Rattle.state.specs.declared.Text.{Text}
use Rattle.state.specs.declared.Config.{Config}
use Rattle.rules.specs.World.{World, height, port}
use Rattle.rules.specs.Numbers.{too_high}
use Rattle.rules.specs.Fonts.{Opened, opened, shut, opened_at, open_font}
use Rattle.rules.specs.Text.{at_point, home, with_font, with_wrap, with_scroll, with_metrics, place_x, place_y, Place, place, nowhere, wrapped, fitted, Ink, Drawn, drawn, ignored, drawn_by, drawn_at, drawn_on, character_in, character, font_chosen, choose_font, place_in, set_place}
use Rattle.rules.proofs.Good.{TextGood, Parts, put_framebuffer, put_text_lem, Leaves, passes}

-- ---- the text point and its settings

pub at_point_lem : {t : Text} → TextGood t → (x y : ℕ) → x ≤ 495 → y < 256 → TextGood (at_point t x y)
at_point_lem g x y h k = omega arith

pub home_good : {t : Text} → TextGood t → TextGood (home t)
home_good g = omega arith

pub font_good : {t : Text} → TextGood t → (i : ℕ) → i < 65536 → TextGood (with_font t i)
font_good g i h = omega arith

pub wrap_good : {t : Text} → TextGood t → (b : Bool) → TextGood (with_wrap t b)
wrap_good g b = omega arith

pub scroll_good : {t : Text} → TextGood t → (b : Bool) → TextGood (with_scroll t b)
scroll_good g b = omega arith

pub metrics_good : {t : Text} → TextGood t → (a : List ℕ) → Bytes a → TextGood (with_metrics t a)
metrics_good g a b = omega (arith, b 0, b 1, b 2, b 3, b 4)

-- ---- fonts: a refusal's number is one that is given

abbrev Numbered : Opened → Type 0
Numbered (opened f) = Unit {0}
Numbered (shut r) = Given r

found_numbered : (h : ℕ) (t : Option Location) (s : List ℕ) → Numbered (opened_at h t s)
unfolding opened_at
found_numbered h None s = omega arith
found_numbered h (Some f) s = by_test Numbered (is_font h (take f.size (drop f.start s))) _ _ (λ _. tt) (λ _. omega arith)

font_numbered : (h : ℕ) (s : List ℕ) (i : ℕ) → Numbered (open_font h s i)
unfolding open_font
font_numbered h s i = by_test Numbered (eqb i 1) _ _ (λ _. tt) (λ _. found_numbered h (find_of s 1 i) s)

-- ---- places: a character ends at the last column at most, and its row is on the framebuffer

abbrev Placed : ℕ → ℕ → Place → Type 0
Placed h v nowhere = Unit {0}
Placed h v (place x y up) = (x + v ≤ width) × (y ≤ h)

room_placed : (h v f : ℕ) (p : Place) → Placed h v (fitted h v f p)
unfolding fitted
room_placed h v f nowhere = tt
room_placed h v f (place x y up) =
    by_test (Placed h v) (leb (x + v) width && leb (y + f) h) _ _
    (λ e. let a = and_both (leb (x + v) width) (leb (y + f) h) e in
    let b = leb-true (x + v) width a.0 in
    let c = leb-true (y + f) h a.1 in omega arith)
    (λ _. tt)

module _ {n : Config} {m : ℕ} {w : World} (p : Parts n m w) where
  choice : (i : ℕ) (o : Opened) → i < 65536 → Numbered o → Leaves n m (font_chosen w i o)
  unfolding font_chosen
  choice i (opened f) h k = put_text_lem p (font_good p.port_good.text i h)
  choice i (shut r) h k = k

  pub choose_good : (i : ℕ) → i < 65536 → Leaves n m (choose_font w i)
  unfolding choose_font
  choose_good i h = passes n m (too_high i) 19 _ (omega arith) (λ _. choice i (open_font (height w) w.store i) h (font_numbered (height w) w.store i))

  placing : (c r : ℕ) (o : Opened) → Numbered o → Leaves n m (place_in w c r o)
  unfolding place_in
  placing c r (shut i) k = k
  placing c r (opened f) k =
      let x = place_x (port w).text f c in
      let y = place_y (port w).text f r in
      passes n m (eqb c 0 || eqb r 0 || leb width x || leb (height w) y) 17 _ (omega arith)
      (λ h. let hx = leb-false width x (or_two (eqb c 0 || eqb r 0) (leb width x) (or_one (eqb c 0 || eqb r 0 || leb width x) (leb (height w) y) h)) in
      let hy = leb-false (height w) y (or_two (eqb c 0 || eqb r 0 || leb width x) (leb (height w) y) h) in
      put_text_lem p (at_point_lem p.port_good.text x y (omega (arith, hx)) (omega (arith, hy, p.config.fits))))

  pub place_good : (c r : ℕ) → Leaves n m (set_place w c r)
  unfolding set_place
  place_good c r = placing c r (open_font (height w) w.store (port w).text.font) (font_numbered (height w) w.store (port w).text.font)

  drawn_at_lem : (i : Ink) (v t : ℕ) (q : Place) → Placed (height w) v q → Leaves n m (drawn_at w i v t q)
  unfolding drawn_at
  drawn_at_lem i v t nowhere h = omega arith
  drawn_at_lem i v t (place x y up) h =
      put_text_lem (put_framebuffer p (bytes_repaint _ _))
      (at_point_lem p.port_good.text (x + v + (port w).text.char_space) y (omega (arith, h.0, p.port_good.text.fits.char_space)) (omega (arith, h.1, p.config.fits)))

  drawn_on_lem : (d : Drawn) → Leaves n m (drawn_on w d)
  unfolding drawn_on
  drawn_on_lem ignored = p
  drawn_on_lem (drawn i v t) = drawn_at_lem i v t (fitted (height w) v t (wrapped (port w).text v t)) (room_placed (height w) v t (wrapped (port w).text v t))

  in_font : (c : ℕ) (o : Opened) → Numbered o → Leaves n m (character_in w c o)
  unfolding character_in
  in_font c (shut r) k = k
  in_font c (opened f) k = drawn_on_lem (drawn_by f c (glyph_of f c))

  pub character_good : (c : ℕ) → Leaves n m (character w c)
  unfolding character
  character_good c = in_font c (open_font (height w) w.store (port w).text.font) (font_numbered (height w) w.store (port w).text.font)
