-- A CHARACTER THAT THE CURRENT FONT LACKS shows as a black box, or is ignored; and no refusal has number 28.
-- Assumes nothing.
use mathlib.Core.Path.{◌≡◌, ◌∙◌, refl, ap, subst}
use mathlib.Core.Bool.{true, false, cond, ◌&&◌}
use mathlib.Core.List.{List, []}
use Prim.Native.Nat.{ℕ, ◌+◌}
use lib.Dec.{eqb, leb}
use lib.ListN.{length}
use Rattle.pixels.specs.Framebuffer.{Region, On, pixel, put, plain}
use Rattle.pixels.specs.Regions.{box, everywhere}
use Rattle.pixels.proofs.Painting.{pixel_put}
use Rattle.pixels.proofs.Tests.{by_test}
use Rattle.scroll.specs.Scroll.{scrolled}
use Rattle.scroll.proofs.Footprint.{scroll_footprint}
use Rattle.refusals.specs.Refusals.{no_glyph, glyph_does_not_fit, Given}
use Rattle.fonts.specs.Fonts.{nominal_width, height_of, first_of, last_of}
use Rattle.std.specs.Prelude.{None}
use Rattle.opened_font.specs.Glyphs.{glyph_of}
use Rattle.opened_font.proofs.Laws.{glyph_missing}
use Rattle.bar_ledger.specs.Ledger.{quiet, painted}
use Rattle.state.specs.declared.Config.{Config}
use Rattle.state.specs.declared.Phase.{Phase}
use Rattle.state.specs.declared.Phase.TheVariants.{Idle}
use Rattle.rules.specs.World.{World, height, port, with_framebuffer, put_text, Outcome, done, refused, quietly}
use Rattle.rules.specs.Fonts.{opened, open_font}
use Rattle.rules.specs.Text.{at_point, Place, place, nowhere, wrapped, fitted, moved_up, is_ignored, solid, missing, drawn_by, drawn_at, drawn_on, character_in, character}
use Rattle.rules.specs.Step.{alone, by_phase, Input, byte, outcome, after, step, replies}
use Rattle.rules.specs.Sound.{Comes, Good}
use Rattle.rules.specs.History.{last_in}
use Rattle.rules.specs.Events.{event, meant, character_event}
use Rattle.rules.proofs.Good.{Leaves, parts}
use Rattle.rules.proofs.GoodByte.{input_leaves}

-- outside a command, a byte that is a character below the first or above the last of the current font
pub record Lacking (w : World) (c : ℕ) (f : List ℕ) : Type 0 where
  pub idle : (port w).line.phase ≡ Idle
  pub no_prefix : eqb c 254 ≡ false
  pub font : open_font (height w) w.store (port w).text.font ≡ opened f
  pub lacks : (leb (first_of f) c && leb c (last_of f)) ≡ false

-- where a box of the nominal size goes
abbrev pub box_place : World → List ℕ → Place
box_place w f = fitted (height w) (nominal_width f) (height_of f) (wrapped (port w).text (nominal_width f) (height_of f))

abbrev pub nominal_box : List ℕ → ℕ → ℕ → Region
nominal_box f x y = box x (x + nominal_width f) y (y + height_of f)

abbrev boxed_world : World → List ℕ → ℕ → ℕ → ℕ → World
boxed_world w f x y up =
    put_text (with_framebuffer w (put (nominal_box f x y) (plain true) (moved_up up w.framebuffer))) (at_point (port w).text (x + nominal_width f + (port w).text.char_space) y)

moved_long : (n : ℕ) (g : List ℕ) → length (moved_up n g) ≡ length g
moved_long n g = by_test (λ (h : List ℕ). length h ≡ length g) (eqb n 0) g (scrolled n g) (λ _. refl) (λ _. (scroll_footprint n g).long)

-- THE BOX: each of its pixels is black, the text point moves by the nominal width, nothing is counted or sent, and what is touched is the box, or
-- everything if it scrolls
pub record Boxed (w : World) (c : ℕ) (f : List ℕ) (x y up : ℕ) : Type 0 where
  pub black : (u v : ℕ) → On (length w.framebuffer) u v → nominal_box f x y u v ≡ true → pixel (step w (byte c)).framebuffer u v ≡ true
  pub moves : (port (step w (byte c))).text ≡ at_point (port w).text (x + nominal_width f + (port w).text.char_space) y
  pub uncounted : (port (step w (byte c))).refusals ≡ (port w).refusals
  pub silent : replies w (byte c) ≡ []
  pub touches : event w (byte c) ≡ painted (cond (eqb up 0) (nominal_box f x y) everywhere)

module _ (w : World) (c : ℕ) (f : List ℕ) (l : Lacking w c f) where
  no_glyph_lem : glyph_of f c ≡ None
  no_glyph_lem = glyph_missing f c l.lacks

  alone_is : alone w c ≡ drawn_on w (drawn_by f c None)
  unfolding alone character character_in
  alone_is = rw (l.no_prefix, l.font, no_glyph_lem)

  comes_to : outcome w (byte c) ≡ drawn_on w (drawn_by f c None)
  unfolding by_phase
  comes_to = ap (λ (p : Phase). by_phase p w c) l.idle ∙ alone_is

  meant_is : meant (port w).line.phase w c ≡ character_event w c
  unfolding meant
  meant_is = ap (λ (p : Phase). meant p w c) l.idle ∙ rw l.no_prefix

  module _ (i : is_ignored c ≡ true) where
    ignores : outcome w (byte c) ≡ quietly w
    unfolding missing drawn_by drawn_on
    ignores = comes_to ∙ rw i

    touches_nothing : character_event w c ≡ quiet
    unfolding character_event missing drawn_by
    touches_nothing = rw (l.font, no_glyph_lem, i)

    -- A BYTE THAT IS IGNORED changes nothing, sends nothing and touches no pixel
    pub ignored_byte : (step w (byte c) ≡ w) × (replies w (byte c) ≡ []) × (event w (byte c) ≡ quiet)
    unfolding step after replies event
    ignored_byte = (rw ignores, rw ignores, rw ignores (meant_is ∙ touches_nothing))

  module _ (i : is_ignored c ≡ false) where
    as_box : outcome w (byte c) ≡ drawn_at w solid (nominal_width f) (height_of f) (box_place w f)
    unfolding missing drawn_by drawn_on
    as_box = comes_to ∙ rw i

    -- A BOX WITHOUT ROOM is refused
    pub box_refused : box_place w f ≡ nowhere → outcome w (byte c) ≡ refused glyph_does_not_fit []
    unfolding drawn_at
    box_refused e = as_box ∙ rw e

    -- and any other is painted
    module _ (x y up : ℕ) (there : box_place w f ≡ place x y up) where
      paints : outcome w (byte c) ≡ quietly (boxed_world w f x y up)
      unfolding drawn_at
      paints = as_box ∙ rw there

      touches : character_event w c ≡ painted (cond (eqb up 0) (nominal_box f x y) everywhere)
      unfolding character_event missing drawn_by
      touches = rw (l.font, no_glyph_lem, i, there)

      stepped : step w (byte c) ≡ boxed_world w f x y up
      unfolding step after
      stepped = rw paints

      pub box_shown : Boxed w c f x y up
      unfolding replies event
      box_shown =
          record {
            black = λ u v on e.
                ap (λ (z : World). pixel z.framebuffer u v) stepped
                ∙ pixel_put (nominal_box f x y) (plain true) (moved_up up w.framebuffer) u v (rw (moved_long up w.framebuffer) on) ∙ rw e;
            moves = ap (λ (z : World). (port z).text) stepped;
            uncounted = ap (λ (z : World). (port z).refusals) stepped;
            silent = rw paints;
            touches = rw paints (meant_is ∙ touches);
          }

-- ---- the numbers of refusals

-- EVERY REFUSAL'S NUMBER is one that is given
pub given : (w : World) (i : Input) → Good w → Comes i → (n : ℕ) (r : List ℕ) → outcome w i ≡ refused n r → Given n
given w i g h n r e = subst (Leaves w.state.config (length w.store)) e (input_leaves (parts g) i h)

last_by : (c : Config) (m : ℕ) (o : Outcome) (k : ℕ) → Leaves c m o → (k ≡ no_glyph → ⊥) → last_in o k ≡ no_glyph → ⊥
last_by c m (done v r) k h f = f
last_by c m (refused j r) k h f = h.2

-- so that 28 is the last one only where it was before
pub never_28 : (w : World) (i : Input) (k : ℕ) → Good w → Comes i → (k ≡ no_glyph → ⊥) → last_in (outcome w i) k ≡ no_glyph → ⊥
never_28 w i k g h f = last_by w.state.config (length w.store) (outcome w i) k (input_leaves (parts g) i h) f
