-- The rules of these commands, each way by itself.
-- Assumes nothing.
use Rattle.std.proofs.Common.{◌≡◌, ℕ, ◌+◌, ◌-◌, ◌%◌, ◌<◌, ◌≤◌, Bool, true, false, cond, not, ◌||◌, List, [], ◌∷◌, sym, refl, ap, ◌∙◌, le-ltb, lt-ltb, eq-eqb, ne_eqb, le-leb}
use mathlib.Core.Logic.{◌⊎◌, inl, inr}
use borrow.Author.Tests.{not-true, not-false, lt-leb}
use Rattle.directory.specs.declared.Entry.{Entry}
use Rattle.directory.specs.declared.Totals.{Totals}
use Rattle.std.specs.Prelude.{Option, Some, None, is_some}
use Rattle.directory.specs.declared.Location.{Location}
use Rattle.directory.specs.Directory.{max_number, length_of, entries, bytes_in, totals_of, is_file, has_file, find_in, find_of, found_size}
use Rattle.directory.proofs.Laws.{located}
use Rattle.files.specs.Files.{unused_of, entry, appended, deleted, purged, stored_byte}
use Rattle.state.specs.declared.Phase.TheVariants.{Idle, Upload}
use Rattle.state.specs.declared.State.{State}
use Rattle.state.specs.Editions.{patience}
use Rattle.state.specs.State.{state, start_text, with_used}
use Rattle.rules.specs.World.{world, put_text, done, quietly, refused}
use Rattle.rules.specs.Pictures.{in_phase}
use Rattle.rules.specs.Text.{with_font}
use Rattle.rules.specs.Files.{in_use, kind_of, lacks_space, begin_upload, upload_data, upload_waits, delete_file, purge}
use Rattle.rules.proofs.GoodStore.{room}

-- ---- the tests

there_or : (t : Bool) (f : Option Location) (b : Bool) (x : Location) → is_some f ≡ b → is_some (cond t (Some x) f) ≡ (t || b)
there_or true f b x e = refl
there_or false f b x e = e

found_has : (es : List Entry) (p a k n : ℕ) → is_some (find_in es p a k n) ≡ has_file es k n
unfolding find_in has_file
found_has [] p a k n = refl
found_has (e ∷ es) p a k n =
    there_or (is_file e k n) (find_in es (p + length_of e.kind) (a + e.size) k n) (has_file es k n) (located p a e.size) (found_has es (p + length_of e.kind) (a + e.size) k n)

pub stored_is : (s : List ℕ) (k n : ℕ) (f : Option Location) (t : Bool) → f ≡ find_of s k n → t ≡ is_some f → t ≡ has_file (entries s) k n
stored_is s k n f t e h = h ∙ ap is_some e ∙ found_has (entries s) 0 256 k n

-- ---- uploads

-- a size that is not refused fits two bytes
pub size_fits : (e f k z : ℕ) (u : Bool) → u ≡ lacks_space e f k z → u ≡ false → z < 65536
size_fits e f k z u h o = (room e f k z (sym h ∙ o)).small

module _ (g s : List ℕ) (st : State) (k n z : ℕ) where
  pub upload_19 : max_number < n → begin_upload (world g s st) k n z ≡ refused 19 (8 ∷ [])
  unfolding begin_upload
  upload_19 l = rw (lt-ltb max_number n l)

  module _ (l : n ≤ max_number) (t : Bool) (e : t ≡ in_use s k n) where
    pub upload_25 : t ≡ true → begin_upload (world g s st) k n z ≡ refused 25 (8 ∷ [])
    unfolding begin_upload
    upload_25 h = rw (le-ltb max_number n l, ← e, h)

    -- y the totals, x what is used, a what is unused
    module _ (h : t ≡ false) (y : Totals) (x a c : ℕ) (u : Bool) (ey : y ≡ totals_of (entries s)) (ex : x ≡ st.panel.used) (ea : a ≡ unused_of s x)
        (d : c ≡ kind_of st.config.edition k) (f : u ≡ lacks_space y.end a c z) where
      lacks : lacks_space (bytes_in (entries s)) (unused_of s st.panel.used) (kind_of st.config.edition k) z ≡ u
      lacks = sym (f ∙ rw (ap (λ (v : Totals). v.end) ey, ea, ex, d))

      pub upload_24 : u ≡ true → begin_upload (world g s st) k n z ≡ refused 24 (8 ∷ [])
      unfolding begin_upload
      upload_24 o = rw (le-ltb max_number n l, ← e, h, lacks, o)

      pub upload_done : u ≡ false → begin_upload (world g s st) k n z ≡ done (in_phase (world g s st) (Upload k n z 0 false 0 0)) (1 ∷ [])
      unfolding begin_upload
      upload_done o = rw (le-ltb max_number n l, ← e, h, lacks, o)

  module _ (i c b : ℕ) where
    pub data_echoed : (v : Bool) → not v ≡ true → upload_data (world g s st) k n z i v c b ≡ done (in_phase (world g s st) (Upload k n z i true b 0)) (b ∷ [])
    unfolding upload_data
    data_echoed v e = rw (not-true v e)

    pub data_26 : (v : Bool) → not v ≡ false → (b ≡ 1 → ⊥) → upload_data (world g s st) k n z i v c b ≡ refused 26 []
    unfolding upload_data
    data_26 v e h = rw (not-false v e, ne_eqb b 1 h)

    -- u bytes are used
    module _ (v : Bool) (u : ℕ) (s' : List ℕ) (e : not v ≡ false) (h : b ≡ 1) (eu : u ≡ st.panel.used) (f : s' ≡ stored_byte s u i c) where
      pub data_more : i + 1 < z → upload_data (world g s st) k n z i v c b ≡ quietly (in_phase (world g s' st) (Upload k n z (i + 1) false 0 0))
      unfolding upload_data
      data_more l = rw (not-false v e, eq-eqb b 1 h, lt-ltb (i + 1) z l, ← eu, f)

      pub data_last : (q : ℕ) (s'' : List ℕ) → z ≤ i + 1 → q ≡ kind_of st.config.edition k → s'' ≡ appended s' (entry q n z)
          → upload_data (world g s st) k n z i v c b ≡ quietly (in_phase (world g s'' (state st.config st.port (with_used st.panel ((u + z) % 65536)))) Idle)
      unfolding upload_data
      data_last q s'' l o d = rw (not-false v e, eq-eqb b 1 h, le-ltb (i + 1) z l, ← eu, d, f, o)

    -- b milliseconds after c, at q
    module _ (v : Bool) (d q : ℕ) (sum : q ≡ c + b) where
      pub waits_26 : patience ≤ q → upload_waits (world g s st) k n z i v d c b ≡ refused 26 (254 ∷ 212 ∷ [])
      unfolding upload_waits
      waits_26 l = rw (← sum, le-leb patience q l)

      pub waits_on : q < patience → upload_waits (world g s st) k n z i v d c b ≡ quietly (in_phase (world g s st) (Upload k n z i v d q))
      unfolding upload_waits
      waits_on l = rw (← sum, lt-leb patience q l)

-- ---- delete and purge

module _ (g s : List ℕ) (st : State) (t n : ℕ) where
  pub delete_20 : 2 ≤ t → delete_file (world g s st) t n ≡ refused 20 []
  unfolding delete_file
  delete_20 l = rw (le-leb 2 t l)

  pub delete_19 : t < 2 → max_number < n → delete_file (world g s st) t n ≡ refused 19 []
  unfolding delete_file
  delete_19 l m = rw (lt-leb 2 t l, lt-ltb max_number n m)

  module _ (x : Option Location) (l : t < 2) (m : n ≤ max_number) (e : x ≡ find_of s (t + 1) n) where
    pub delete_22 : x ≡ None → delete_file (world g s st) t n ≡ refused 22 []
    unfolding delete_file
    delete_22 h = rw (lt-leb 2 t l, le-ltb max_number n m, ← stored_is s (t + 1) n x false e (sym (ap is_some h)))

    -- f where it is
    module _ (f : Location) (s' : List ℕ) (h : x ≡ Some f) (gone : s' ≡ deleted s (t + 1) n) where
      there : has_file (entries s) (t + 1) n ≡ true
      there = sym (stored_is s (t + 1) n x true e (sym (ap is_some h)))

      left : st.panel.used - found_size (find_of s (t + 1) n) ≡ st.panel.used - f.size
      left = ap (λ (y : Option Location). st.panel.used - found_size y) (sym e ∙ h)

      pub delete_chosen : t + 1 ≡ 1 → n ≡ st.port.text.font
          → delete_file (world g s st) t n ≡ quietly (put_text (world g s' (state st.config st.port (with_used st.panel (st.panel.used - f.size)))) (with_font st.port.text 1))
      unfolding delete_file
      delete_chosen k i = rw (lt-leb 2 t l, le-ltb max_number n m, there, ← gone, left, eq-eqb (t + 1) 1 k, eq-eqb n st.port.text.font i)

      pub delete_other : ((t + 1 ≡ 1) × (n ≡ st.port.text.font → ⊥)) ⊎ (t + 1 ≡ 1 → ⊥)
          → delete_file (world g s st) t n ≡ quietly (world g s' (state st.config st.port (with_used st.panel (st.panel.used - f.size))))
      unfolding delete_file
      delete_other (inl (k, d)) = rw (lt-leb 2 t l, le-ltb max_number n m, there, ← gone, left, eq-eqb (t + 1) 1 k, ne_eqb n st.port.text.font d)
      delete_other (inr k) = rw (lt-leb 2 t l, le-ltb max_number n m, there, ← gone, left, ne_eqb (t + 1) 1 k)

module _ (g s : List ℕ) (st : State) (a b : ℕ) where
  pub purge_20 : (a ≡ 89 → ⊥) ⊎ ((a ≡ 89) × (b ≡ 33 → ⊥)) → purge (world g s st) a b ≡ refused 20 []
  unfolding purge
  purge_20 (inl h) = rw (ne_eqb a 89 h)
  purge_20 (inr (e, h)) = rw (eq-eqb a 89 e, ne_eqb b 33 h)

  pub purge_done : (s' : List ℕ) → a ≡ 89 → b ≡ 33 → s' ≡ purged s
      → purge (world g s st) a b ≡ quietly (put_text (world g s' (state st.config st.port (with_used st.panel 0))) (start_text st.config.height))
  unfolding purge
  purge_done s' e f d = rw (eq-eqb a 89 e, eq-eqb b 33 f, d)
