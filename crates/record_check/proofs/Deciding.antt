-- A record is accepted exactly when each of its parts is.
-- Assumes nothing.
use mathlib.Core.Path.{◌≡◌, refl, sym, ap, ◌∙◌}
use mathlib.Core.Bool.{Bool, true, false, ◌&&◌, ◌||◌, and_assoc, and-true, and-false}
use mathlib.Core.List.{List, ◌∷◌, ◌++◌}
use Prim.Native.Nat.{ℕ, zero, suc, ◌+◌}
use native.Mathlib.Omega.{arith}
use lib.Dec.{eqb, ltb}
use lib.ListN.{length, drop, replicate}
use lib.Seq.{drop-drop, get_or-drop}
use borrow.Author.Tests.{eq-eqb, eqb-true}
use Rattle.canvas.specs.Sizes.{is_height}
use Rattle.queue.specs.Record.{at, bit, Bytes, bytes_from}
use Rattle.state.specs.Editions.{is_edition}
use Rattle.state.specs.Soundness.{every, sound_phase, sound_text, sound_port, thresholds_fit, sound_bar, sound_strip, sound_panel, sound_config, sound_state}
use Rattle.state.specs.Canonical.{canonical_phase, canonical_arguments, canonical_port, canonical_bar, canonical_strip, canonical_serial, canonical_panel, canonical_state}
use Rattle.record.specs.Layout.{bars_at, port_size, height_at, panel_at, panel_strips, panel_serial, panel_backlight, strips_at, serial_at, backlight_at, record_size}
use Rattle.record.specs.Reading.{many_of, flag_at, phase_of, arguments_in, text_of, flow_of, port_of, slot_of, strip_of, panel_of, height_in, edition_in, decode_of}
use Rattle.record.specs.Writing.{many_bytes, gathering_bytes, data_bytes, upload_bytes, text_bytes, other_bytes, phase_bytes, port_bytes, slot_bytes, strip_bytes, last_bytes, panel_bytes, encode_of}
use Rattle.record_check.specs.Parts.{stands, clear, every_of, phase_stands, phase_holds, text_holds, other_holds, port_holds, slot_holds, strip_holds, panel_holds}
use Rattle.record.specs.Record.{same_bytes, recognised, sound_record}
use Rattle.record.proofs.Same.{both}
use Rattle.record.proofs.Back.{low_is, high_is}
use Rattle.record.proofs.Bytes.{bytes_drop}
use Rattle.record.proofs.Filling.{length-many}
use Rattle.record.proofs.Whole.{Sized, length-gathering, length-data, length-phase, length-port, length-bars, length-strips, length-sized}
use Rattle.record_check.proofs.Standing.{stands_next, stands_drop, stands_front, stands_read, stands_same}
use Rattle.record_check.proofs.Testing.{flags_both, arguments_are}
use Rattle.record_check.proofs.SetUp.{flag_or_clear}

panel_bars_lem : (l : List ℕ) → length (panel_of l).bars ≡ 16
unfolding panel_of
panel_bars_lem l = length-many slot_of 7 l 16

panel_strips_lem : (l : List ℕ) → length (panel_of l).strips ≡ 8
unfolding panel_of
panel_strips_lem l = length-many strip_of 5 (drop 112 l) 8

pub decoded_sized : (r : List ℕ) → Sized (decode_of r)
unfolding decode_of port_of
decoded_sized r = record { args = refl; bars = panel_bars_lem (drop panel_at r); strips = panel_strips_lem (drop panel_at r) }

swap : (a b c d : Bool) → ((a && b) && (c && d)) ≡ ((a && c) && (b && d))
swap true true c d = refl
swap true false c d = sym (and-false c)
swap false b c d = refl

-- ---- the port

-- sound, canonical and written are asked of each part: a phase, g its tag, e its arguments, x what it holds; b and v text; c and w the rest
port_parts : (a b c d e g x v w : Bool) → ((a && b && c && (d && e)) && ((g && x) && (v && w))) ≡ ((a && d && (g && (e && x))) && ((b && v) && (c && w)))
port_parts false b c d e g x v w = refl
port_parts true b c false e g x v w = rw (and-false (b && c))
port_parts true b c true e false x v w = and-false (b && c && e)
port_parts true b c true false true x v w = rw (and-false (b && c))
port_parts true b c true true true false v w = and-false (b && c && true)
port_parts true b c true true true true v w = rw (and-true (b && c)) (swap b c v w)

module _ (r : List ℕ) where
  arguments_stand : stands (arguments_in (drop 3 r)) 3 r ≡ true
  arguments_stand = ap (λ (l : List ℕ). stands l 3 r) (arguments_are r) ∙ stands_read r 3 6

  phase_written : stands (phase_bytes (port_of r)) 0 r ≡ (stands (gathering_bytes (phase_of r)) 0 r && (stands (data_bytes (phase_of r)) 9 r && stands (upload_bytes (phase_of r)) 15 r))
  unfolding phase_bytes port_of
  phase_written =
      stands_next (gathering_bytes (phase_of r)) _ 0 3 r (length-gathering (phase_of r))
      ∙ ap (λ (t : Bool). stands (gathering_bytes (phase_of r)) 0 r && t)
      (stands_next (arguments_in (drop 3 r)) _ 3 6 r refl
      ∙ rw arguments_stand (stands_next (data_bytes (phase_of r)) (upload_bytes (phase_of r)) 9 6 r (length-data (phase_of r))))

  port_written : stands (port_bytes (port_of r)) 0 r
      ≡ (stands (phase_bytes (port_of r)) 0 r && (stands (text_bytes (text_of (drop 26 r))) 26 r && stands (other_bytes (port_of r)) 38 r))
  unfolding port_bytes port_of
  port_written =
      stands_next (phase_bytes (port_of r)) _ 0 26 r (length-phase (port_of r) refl)
      ∙ ap (λ (t : Bool). stands (phase_bytes (port_of r)) 0 r && t) (stands_next (text_bytes (text_of (drop 26 r))) (other_bytes (port_of r)) 26 12 r refl)

  pub port_is : port_holds r ≡ (phase_holds r && (text_holds r && other_holds r))
  unfolding port_holds phase_stands text_holds other_holds sound_port canonical_port port_of
  port_is =
      let p = phase_of r in
      let t = text_of (drop 26 r) in
      ap (λ (x : Bool). sound_port (edition_in r) (port_of r) && thresholds_fit (port_of r).flow && canonical_port (port_of r) && x)
      (port_written ∙ ap (λ (x : Bool). x && (stands (text_bytes t) 26 r && stands (other_bytes (port_of r)) 38 r)) phase_written)
      ∙ port_parts (sound_phase (edition_in r) p) (sound_text t) (thresholds_fit (flow_of (drop 41 r))) (canonical_phase p) (canonical_arguments p (arguments_in (drop 3 r))) (stands (gathering_bytes p) 0 r)
      (stands (data_bytes p) 9 r && stands (upload_bytes p) 15 r) (stands (text_bytes t) 26 r) (stands (other_bytes (port_of r)) 38 r)

-- ---- the panel

module _ {A : Type 0} (one : List ℕ → A) (bytes : A → List ℕ) (size : ℕ) (fit : (a : A) → length (bytes a) ≡ size) (f g : A → Bool) (test : List ℕ → Bool)
    (e : (l : List ℕ) → (f (one l) && g (one l) && stands (bytes (one l)) 0 l) ≡ test l) where
  many_hold : (n : ℕ) (l : List ℕ) → (every f (many_of one size l n) && every g (many_of one size l n) && stands (many_bytes bytes (many_of one size l n)) 0 l) ≡ every_of test size l n
  unfolding every many_of many_bytes every_of stands
  many_hold zero l = refl
  many_hold (suc n) l =
      let m = many_of one size (drop size l) n in
      let a = one l in
      let z : 0 + size ≡ size = omega arith in
      let s : stands (bytes a ++ many_bytes bytes m) 0 l ≡ (stands (bytes a) 0 l && stands (many_bytes bytes m) 0 (drop size l)) =
      stands_next (bytes a) (many_bytes bytes m) 0 size l (fit a) ∙ ap (λ (k : ℕ). stands (bytes a) 0 l && stands (many_bytes bytes m) k l) z
      ∙ ap (λ (t : Bool). stands (bytes a) 0 l && t) (sym (stands_front (many_bytes bytes m) size l)) in
      ap (λ (t : Bool). (f a && every f m) && (g a && every g m) && t) s
      ∙ ap (λ (t : Bool). t && (stands (bytes a) 0 l && stands (many_bytes bytes m) 0 (drop size l))) (swap (f a) (every f m) (g a) (every g m))
      ∙ swap (f a && g a) (every f m && every g m) (stands (bytes a) 0 l) (stands (many_bytes bytes m) 0 (drop size l))
      ∙ ap (λ (t : Bool). t && (every f m && every g m && stands (many_bytes bytes m) 0 (drop size l))) (e l)
      ∙ ap (λ (t : Bool). test l && t) (many_hold n (drop size l))

-- a, c and u the bars; b, d and v the strips; k and w the serial number and what follows it
panel_parts : (a b c d k u v w : Bool) → ((a && b && (c && d && k)) && (u && (v && w))) ≡ (((a && c && u) && (b && d && v)) && (k && w))
panel_parts a b c d false u v w = rw (and-false (c && d), and-false (a && b)) (sym (and-false ((a && c && u) && (b && d && v))))
panel_parts a b c d true u v w =
    rw (and-true (c && d), swap a b c d, swap (a && c) (b && d) u (v && w), ← and_assoc (b && d) v w) (sym (and_assoc (a && c && u) (b && d && v) w))

module _ (h : ℕ) (l : List ℕ) (b : Bytes l) where
  panel_written : stands (panel_bytes (panel_of l)) 0 l
      ≡ (stands (many_bytes slot_bytes (panel_of l).bars) 0 l && (stands (many_bytes strip_bytes (panel_of l).strips) 0 (drop 112 l) && stands (last_bytes (panel_of l)) 152 l))
  unfolding panel_bytes
  panel_written =
      stands_next (many_bytes slot_bytes (panel_of l).bars) _ 0 112 l (length-bars (panel_of l) (panel_bars_lem l))
      ∙ ap (λ (t : Bool). stands (many_bytes slot_bytes (panel_of l).bars) 0 l && t)
      (stands_next (many_bytes strip_bytes (panel_of l).strips) (last_bytes (panel_of l)) 112 40 l (length-strips (panel_of l) (panel_strips_lem l))
      ∙ ap (λ (t : Bool). t && stands (last_bytes (panel_of l)) 152 l) (sym (stands_front (many_bytes strip_bytes (panel_of l).strips) 112 l)))

  last_plain : last_bytes (panel_of l) ≡ bit (flag_at l 152) ∷ (bytes_from l 153 3 ++ (bit (flag_at l 156) ∷ bytes_from l 157 3))
  unfolding panel_of bytes_from
  last_plain = simp (get_or-drop, low_is (at l 158) (at l 159) (b 158), high_is (at l 158) (at l 159) (b 158))

  serial_is : canonical_serial (panel_of l).serial ≡ (flag_at l 152 || clear 153 2 l)
  unfolding panel_of canonical_serial every stands
  serial_is = simp get_or-drop

  last_is : (canonical_serial (panel_of l).serial && stands (last_bytes (panel_of l)) 152 l) ≡ ((flag_at l 152 || clear 152 3 l) && ltb (at l 156) 2)
  unfolding stands
  last_is =
      ap (λ (t : Bool). t && stands (last_bytes (panel_of l)) 152 l) serial_is
      ∙ ap (λ (t : Bool). (flag_at l 152 || clear 153 2 l) && t) (ap (λ (m : List ℕ). stands m 152 l) last_plain ∙ flags_both l 152 3 3)
      ∙ sym (and_assoc (flag_at l 152 || clear 153 2 l) (ltb (at l 152) 2) (ltb (at l 156) 2))
      ∙ ap (λ (t : Bool). t && ltb (at l 156) 2) (flag_or_clear (at l 152) (clear 153 2 l))

  bars_are : (every (sound_bar h) (panel_of l).bars && every canonical_bar (panel_of l).bars && stands (many_bytes slot_bytes (panel_of l).bars) 0 l) ≡ every_of (slot_holds h) 7 l 16
  unfolding panel_of slot_holds
  bars_are = many_hold slot_of slot_bytes 7 (λ a. refl) (sound_bar h) canonical_bar (slot_holds h) (λ m. refl) 16 l

  strips_are : (every (sound_strip h) (panel_of l).strips && every canonical_strip (panel_of l).strips && stands (many_bytes strip_bytes (panel_of l).strips) 0 (drop 112 l))
      ≡ every_of (strip_holds h) 5 (drop 112 l) 8
  unfolding panel_of strip_holds
  strips_are = many_hold strip_of strip_bytes 5 (λ a. refl) (sound_strip h) canonical_strip (strip_holds h) (λ m. refl) 8 (drop 112 l)

  panel_is : panel_holds h l ≡ ((every_of (slot_holds h) 7 l 16 && every_of (strip_holds h) 5 (drop 112 l) 8) && ((flag_at l 152 || clear 152 3 l) && ltb (at l 156) 2))
  unfolding panel_holds sound_panel canonical_panel
  panel_is =
      let q = panel_of l in
      ap (λ (t : Bool). sound_panel h q && canonical_panel q && t) panel_written
      ∙ panel_parts (every (sound_bar h) q.bars) (every (sound_strip h) q.strips) (every canonical_bar q.bars) (every canonical_strip q.strips) (canonical_serial q.serial)
      (stands (many_bytes slot_bytes q.bars) 0 l) (stands (many_bytes strip_bytes q.strips) 0 (drop 112 l)) (stands (last_bytes q) 152 l)
      ∙ rw (bars_are, strips_are, last_is)

-- the same in the places of the record
pub panel_in : (h : ℕ) (r : List ℕ) → Bytes r → panel_holds h (drop panel_at r)
    ≡ (every_of (slot_holds h) 7 (drop bars_at r) 16 && every_of (strip_holds h) 5 (drop strips_at r) 8 && ((eqb (at r serial_at) 1 || clear serial_at 3 r) && ltb (at r backlight_at) 2))
panel_in h r b =
    panel_is h (drop panel_at r) (bytes_drop panel_at r b)
    ∙ rw (drop-drop panel_strips panel_at r, get_or-drop panel_at r panel_serial 0, get_or-drop panel_at r panel_backlight 0, stands_drop (replicate 3 0) panel_at panel_serial r)

module _ (h : ℕ) (r : List ℕ) (b : Bytes r) where
  pub backlight_refused : ltb (at r backlight_at) 2 ≡ false → panel_holds h (drop panel_at r) ≡ false
  backlight_refused e = panel_in h r b ∙ rw (e, and-false (eqb (at r serial_at) 1 || clear serial_at 3 r)) (and-false (every_of (slot_holds h) 7 (drop bars_at r) 16 && every_of (strip_holds h) 5 (drop strips_at r) 8))

  pub serial_refused : (eqb (at r serial_at) 1 || clear serial_at 3 r) ≡ false → panel_holds h (drop panel_at r) ≡ false
  serial_refused e = panel_in h r b ∙ rw e (and-false (every_of (slot_holds h) 7 (drop bars_at r) 16 && every_of (strip_holds h) 5 (drop strips_at r) 8))

-- ---- all of it

-- a and d and u the port, c its thresholds; b, e and v the panel
record_parts : (a b c d e u v : Bool) → ((a && b && c && (d && e)) && (u && v)) ≡ ((a && c && d && u) && (b && e && v))
record_parts a b false d e u v = rw (and-false (a && b), and-false a)
record_parts a b true d e u v = rw (and-true (a && b), and-true a, swap a b d e) (swap (a && d) (b && e) u v)

-- the edition, j, in front of all else
edition_first : (j p q t c s : Bool) → ((j && p && q) && t && c && s) ≡ (j && ((p && q) && t && c && s))
edition_first true p q t c s = refl
edition_first false p q t c s = refl

-- a the length, k the height, j the edition
not_known : (a k j p q c d s : Bool) → (a && k) ≡ false → false ≡ (a && ((k && j) && p && q) && c && d && s)
not_known true k j p q c d s e = rw e
not_known false k j p q c d s e = refl

module _ (r : List ℕ) where
  pub recognised_long : recognised r ≡ true → length r ≡ record_size
  unfolding recognised
  recognised_long e = eqb-true (length r) record_size (both (eqb (length r) record_size) (is_height (height_in r)) e).0

  pub not_recognised : recognised r ≡ false → sound_record r ≡ false
  unfolding sound_record sound_state sound_config recognised decode_of
  not_recognised e = sym (not_known (eqb (length r) record_size) (is_height (height_in r)) _ _ _ _ _ _ e)

  -- height and edition stand where they were read
  config_stands : (l : List ℕ) → stands (height_in r ∷ edition_in r ∷ l) height_at r ≡ stands l panel_at r
  unfolding stands
  config_stands l = rw (eq-eqb (height_in r) (height_in r) refl, eq-eqb (edition_in r) (edition_in r) refl)

  written_again : length r ≡ record_size
      → same_bytes (encode_of (decode_of r)) r ≡ (stands (port_bytes (port_of r)) 0 r && stands (panel_bytes (panel_of (drop panel_at r))) 0 (drop panel_at r))
  unfolding encode_of decode_of
  written_again n =
      let b = panel_bytes (panel_of (drop panel_at r)) in
      stands_same (encode_of (decode_of r)) r (length-sized (decode_of r) (decoded_sized r) ∙ sym n)
      ∙ stands_next (port_bytes (port_of r)) (height_in r ∷ edition_in r ∷ b) 0 port_size r (length-port (port_of r) (decoded_sized r).args)
      ∙ ap (λ (t : Bool). stands (port_bytes (port_of r)) 0 r && t) (config_stands b ∙ sym (stands_front b panel_at r))

  -- what is left to ask where the record is recognised: its edition, its port and its panel
  pub record_is : recognised r ≡ true → sound_record r ≡ (is_edition (edition_in r) && (port_holds r && panel_holds (height_in r) (drop panel_at r)))
  unfolding sound_record recognised decode_of sound_state sound_config canonical_state port_holds panel_holds
  record_is e =
      let a = port_of r in
      let b = panel_of (drop panel_at r) in
      let m = drop panel_at r in
      let j = is_edition (edition_in r) in
      let p = sound_port (edition_in r) a in
      let q = sound_panel (height_in r) b in
      let known = both (eqb (length r) record_size) (is_height (height_in r)) e in
      rw (known.0, known.1)
      (ap (λ (x : Bool). (j && p && q) && thresholds_fit a.flow && canonical_state (decode_of r) && x) (written_again (eqb-true (length r) record_size known.0))
      ∙ edition_first j p q (thresholds_fit a.flow) (canonical_state (decode_of r)) (stands (port_bytes a) 0 r && stands (panel_bytes b) 0 m)
      ∙ ap (λ (x : Bool). j && x) (record_parts p q (thresholds_fit a.flow) (canonical_port a) (canonical_panel b) (stands (port_bytes a) 0 r) (stands (panel_bytes b) 0 m)))
