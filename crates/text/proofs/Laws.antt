-- The rules of text, each way by itself.
-- Assumes nothing.
use mathlib.Core.Path.{◌≡◌, ◌∙◌, refl, sym, ap}
use mathlib.Core.Bool.{Bool, true, false, cond}
use mathlib.Core.List.{List, []}
use Prim.Native.Nat.{ℕ, ◌<◌, ◌≤◌}
use lib.Dec.{eqb}
use lib.ListN.{take, drop}
use borrow.Author.Tests.{eq-eqb, ne_eqb, le-leb, lt-leb, le-ltb, lt-ltb}
use Rattle.pixels.specs.Framebuffer.{width}
use Rattle.std.specs.Prelude.{Option, Some, None, Result, Ok, Err, IsErrAnd, ⊤}
use Rattle.refusals.specs.declared.Refusal.{Refusal}
use Rattle.refusals.specs.declared.Refusal.TheVariants.{NoSuchFile, MalformedFile}
use Rattle.refusals.specs.Refusals.{number_of}
use Rattle.directory.specs.declared.Location.{Location}
use Rattle.directory.specs.Directory.{max_number, find_of}
use Rattle.fonts.specs.declared.Malformed.{Malformed}
use Rattle.fonts.specs.Checks.{check_of}
use Rattle.fonts.proofs.Laws.{good_is, malformed_is}
use Rattle.fonts.specs.Fonts.{is_font, nominal_width, height_of}
use Rattle.builtin_font.specs.Table.{table}
use Rattle.state.specs.declared.State.{State}
use Rattle.rules.specs.World.{world, put_text, quietly, refused}
use Rattle.rules.specs.Fonts.{opened, shut, opened_at, open_font}
use Rattle.text.specs.declared.Source.{Source}
use Rattle.text.specs.declared.Source.TheVariants.{BuiltIn, Stored}
use Rattle.text.specs.Places.{pixel_by, place_by}
use Rattle.text.specs.Sources.{source_at, source_of, opened_by}
use Rattle.rules.specs.Text.{with_font, at_point, font_chosen, choose_font, place_in, set_place}

-- ---- where the font of a number lies

found_there : (h : ℕ) (s : List ℕ) (f : Option Location) → opened_by s (source_at h f s) ≡ opened_at h f s
unfolding source_at opened_at opened_by
found_there h s None = refl
found_there h s (Some l) = by_cases (is_font h (take l.size (drop l.start s)))
  where
    by_cases : (t : Bool) → opened_by s (cond t (Ok (Stored l.start l.size)) (Err MalformedFile)) ≡ cond t (opened (take l.size (drop l.start s))) (shut 23)
    by_cases true = refl
    by_cases false = refl

-- a refusal handed on
pub refused_by : (r : Result Source Refusal) (e d : Refusal) → IsErrAnd r (λ f. f ≡ e) → e ≡ d → r ≡ Err d
refused_by (Ok x) e d p q = absurd p
refused_by (Err f) e d p q = ap Err (p ∙ q)

-- and the font that lies there
module _ (h : ℕ) (s : List ℕ) (n : ℕ) where
  lies_by : (t : Bool) → opened_by s (cond t (Ok BuiltIn) (source_at h (find_of s 1 n) s)) ≡ cond t (opened table) (opened_at h (find_of s 1 n) s)
  unfolding opened_by
  lies_by true = refl
  lies_by false = found_there h s (find_of s 1 n)

  lies_there : opened_by s (source_of h s n) ≡ open_font h s n
  unfolding source_of open_font
  lies_there = lies_by (eqb n 1)

  pub source_built_in : n ≡ 1 → Ok BuiltIn ≡ source_of h s n
  unfolding source_of
  source_built_in e = rw (eq-eqb n 1 e)

  module _ (f : Option Location) (other : n ≡ 1 → ⊥) (lookup : f ≡ find_of s 1 n) where
    pub source_22 : f ≡ None → Err NoSuchFile ≡ source_of h s n
    unfolding source_of source_at
    source_22 e = rw (ne_eqb n 1 other, ← lookup, e)

    module _ (o : Location) (l : List ℕ) (c : Result ⊤ Malformed) (there : f ≡ Some o) (lent : l ≡ take o.size (drop o.start s)) (checked : c ≡ check_of (is_font h l)) where
      pub source_23 : (m : Malformed) → c ≡ Err m → Err MalformedFile ≡ source_of h s n
      unfolding source_of source_at
      source_23 m e = rw (ne_eqb n 1 other, ← lookup, there, ← lent, malformed_is c (is_font h l) m checked e)

      pub source_stored : c ≡ Ok tt → Ok (Stored o.start o.size) ≡ source_of h s n
      unfolding source_of source_at
      source_stored e = rw (ne_eqb n 1 other, ← lookup, there, ← lent, good_is c (is_font h l) checked e)

  module _ (c : Result Source Refusal) (sought : c ≡ source_of h s n) where
    opened_there : opened_by s c ≡ open_font h s n
    opened_there = ap (opened_by s) sought ∙ lies_there

    pub from_built_in : (l : List ℕ) → c ≡ Ok BuiltIn → l ≡ table → open_font h s n ≡ opened l
    unfolding opened_by
    from_built_in l e d = sym opened_there ∙ rw (e, d)

    pub from_stored : (a z : ℕ) (l : List ℕ) → c ≡ Ok (Stored a z) → l ≡ take z (drop a s) → open_font h s n ≡ opened l
    unfolding opened_by
    from_stored a z l e d = sym opened_there ∙ rw (e, d)

    pub from_found : (v : Source) → c ≡ Ok v → (l : List ℕ) × (open_font h s n ≡ opened l)
    from_found BuiltIn e = (table, from_built_in table e refl)
    from_found (Stored a z) e = (take z (drop a s), from_stored a z _ e refl)

    pub from_refused : (r : Refusal) → c ≡ Err r → open_font h s n ≡ shut (number_of r)
    unfolding opened_by
    from_refused r e = sym opened_there ∙ rw e

-- ---- choosing it

module _ (g s : List ℕ) (st : State) (n : ℕ) where
  pub choose_19 : max_number < n → choose_font (world g s st) n ≡ refused 19 []
  unfolding choose_font
  choose_19 m = rw (lt-ltb max_number n m)

  pub choose_shut : (r : ℕ) → n ≤ max_number → open_font st.config.height s n ≡ shut r → choose_font (world g s st) n ≡ refused r []
  unfolding choose_font font_chosen
  choose_shut r m e = rw (le-ltb max_number n m, e)

  pub choose_opened : (l : List ℕ) → n ≤ max_number → open_font st.config.height s n ≡ opened l
      → choose_font (world g s st) n ≡ quietly (put_text (world g s st) (with_font st.port.text n))
  unfolding choose_font font_chosen
  choose_opened l m e = rw (le-ltb max_number n m, e)

-- ---- the text point by column and row

module _ (g s : List ℕ) (st : State) (c r v k : ℕ) where
  pub place_no_column : c ≡ 0 → place_by (world g s st) c r v k ≡ refused 17 []
  unfolding place_by
  place_no_column e = rw (eq-eqb c 0 e)

  pub place_no_row : (c ≡ 0 → ⊥) → r ≡ 0 → place_by (world g s st) c r v k ≡ refused 17 []
  unfolding place_by
  place_no_row f e = rw (ne_eqb c 0 f, eq-eqb r 0 e)

  module _ (x y : ℕ) (column : c ≡ 0 → ⊥) (row : r ≡ 0 → ⊥) (at_x : x ≡ pixel_by st.port.text.left c v st.port.text.char_space)
      (at_y : y ≡ pixel_by st.port.text.top r k st.port.text.line_space) where
    pub place_off_right : width ≤ x → place_by (world g s st) c r v k ≡ refused 17 []
    unfolding place_by
    place_off_right b = rw (ne_eqb c 0 column, ne_eqb r 0 row, ← at_x, le-leb width x b)

    pub place_off_below : x < width → st.config.height ≤ y → place_by (world g s st) c r v k ≡ refused 17 []
    unfolding place_by
    place_off_below b d = rw (ne_eqb c 0 column, ne_eqb r 0 row, ← at_x, lt-leb width x b, ← at_y, le-leb st.config.height y d)

    pub place_done : x < width → y < st.config.height → place_by (world g s st) c r v k ≡ quietly (put_text (world g s st) (at_point st.port.text x y))
    unfolding place_by
    place_done b d = rw (ne_eqb c 0 column, ne_eqb r 0 row, ← at_x, lt-leb width x b, ← at_y, lt-leb st.config.height y d)

module _ (g s : List ℕ) (st : State) (c r : ℕ) where
  pub place_shut : (k : ℕ) → open_font st.config.height s st.port.text.font ≡ shut k → set_place (world g s st) c r ≡ refused k []
  unfolding set_place place_in
  place_shut k e = rw e

  opened_place : (l : List ℕ) → open_font st.config.height s st.port.text.font ≡ opened l → set_place (world g s st) c r ≡ place_in (world g s st) c r (opened l)
  unfolding set_place
  opened_place l e = rw e

  by_size : (l : List ℕ) → place_in (world g s st) c r (opened l) ≡ place_by (world g s st) c r (nominal_width l) (height_of l)
  unfolding place_in place_by
  by_size l = refl

  pub place_opened : (l : List ℕ) (v k : ℕ) → open_font st.config.height s st.port.text.font ≡ opened l → v ≡ nominal_width l → k ≡ height_of l
      → set_place (world g s st) c r ≡ place_by (world g s st) c r v k
  place_opened l v k e d f = opened_place l e ∙ by_size l ∙ rw (d, f)
