-- What the port of a record is asked, as a plain test of its bytes, and one law for each way through the functions that test them.
-- Assumes nothing.
use mathlib.Core.Path.{◌≡◌, refl, sym, ap, ◌∙◌}
use mathlib.Core.Bool.{Bool, true, false, ◌&&◌, and_assoc, and-true}
use mathlib.Core.List.{List, [], ◌∷◌, ◌++◌}
use Prim.Native.Nat.{ℕ, ◌+◌, ◌-◌, ◌*◌, ◌<◌}
use native.Mathlib.Omega.{arith}
use native.Mathlib.Decide.{ℕ_discrete}
use lib.Dec.{eqb, ltb, leb}
use lib.ListN.{drop}
use lib.Seq.{get_or-drop}
use borrow.Author.Tests.{eq-eqb, ne_eqb, le-ltb, le-leb}
use Rattle.canvas.specs.Colour.{colour_of}
use Rattle.queue.specs.Record.{at, bit, Bytes, bytes_from}
use Rattle.queue.proofs.Tables.{length-bytes_from}
use Rattle.state.specs.declared.Phase.{Phase}
use Rattle.state.specs.declared.Phase.TheVariants.{Idle, Prefix, Gathering, Inline, Upload}
use Rattle.state.specs.Soundness.{every, sound_gathering, sound_inline, sound_upload, sound_phase, sound_text, thresholds_fit}
use Rattle.state.specs.Canonical.{is_zero, canonical_upload, canonical_phase}
use Rattle.record.specs.Reading.{flag_at, inline_of, upload_of, arguments_in, text_of, flow_of, port_of, edition_in}
use Rattle.record.specs.Writing.{data_bytes, upload_bytes, text_bytes, other_bytes}
use Rattle.record_check.specs.Parts.{stands, clear, phase_stands, phase_holds, text_holds, other_holds}
use Rattle.record_check.proofs.Standing.{stands_next, stands_read, clear_add, zeros_from_lem}
use Rattle.record.proofs.Back.{low_is, high_is}
use Rattle.record.proofs.Ways.{phase_prefix, phase_gathering, phase_inline, phase_upload, phase_idle}

-- ---- flags, a colour and numbers of two bytes are written as they are read

pub zero_flag : (n : ℕ) → (n ≡ 1 → ⊥) → eqb n 0 ≡ ltb n 2
zero_flag n e = elim (ℕ_discrete n 0) [ yes z ↦ rw z | no z ↦ rw (ne_eqb n 0 z, le-ltb n 2 (omega arith)) ]

bit_below : (b : Bool) → bit b < 2
bit_below true = omega arith
bit_below false = omega arith

-- what is read stands, and the rest behind it
read_next : (r : List ℕ) (k n : ℕ) (m : List ℕ) → stands (bytes_from r k n ++ m) k r ≡ stands m (k + n) r
read_next r k n m = stands_next (bytes_from r k n) m k n r (length-bytes_from r k n) ∙ rw (stands_read r k n)

-- a flag and a colour are tests of a byte that say no of 0 and yes of 1
module _ (f : ℕ → Bool) (z : f 0 ≡ false) (o : f 1 ≡ true) where
  kept_is : (n : ℕ) → eqb n (bit (f n)) ≡ ltb n 2
  kept_is n =
      elim (ℕ_discrete n 0) [
        | yes e ↦ rw (e, z)
        | no e ↦ elim (ℕ_discrete n 1) [
          | yes e1 ↦ rw (e1, o)
          | no e1 ↦ rw (ne_eqb n (bit (f n)) (λ h. omega (arith, bit_below (f n))), le-ltb n 2 (omega arith))
        ]
      ]

  kept_next : (r : List ℕ) (k : ℕ) (m : List ℕ) → stands (bit (f (at r k)) ∷ m) k r ≡ (ltb (at r k) 2 && stands m (k + 1) r)
  unfolding stands
  kept_next r k m = ap (λ (b : Bool). b && stands m (k + 1) r) (kept_is (at r k))

pub flag_first : (r : List ℕ) (k n : ℕ) → stands (bit (flag_at r k) ∷ bytes_from r (k + 1) n) k r ≡ ltb (at r k) 2
flag_first r k n = kept_next (λ x. eqb x 1) refl refl r k (bytes_from r (k + 1) n) ∙ rw (stands_read r (k + 1) n) (and-true (ltb (at r k) 2))

-- one of them in front, and a flag another n bytes behind it
kept_both : (f : ℕ → Bool) → f 0 ≡ false → f 1 ≡ true → (r : List ℕ) (k n m : ℕ)
    → stands (bit (f (at r k)) ∷ (bytes_from r (k + 1) n ++ (bit (flag_at r (k + 1 + n)) ∷ bytes_from r (k + 1 + n + 1) m))) k r ≡ (ltb (at r k) 2 && ltb (at r (k + 1 + n)) 2)
kept_both f z o r k n m =
    kept_next f z o r k (bytes_from r (k + 1) n ++ (bit (flag_at r (k + 1 + n)) ∷ bytes_from r (k + 1 + n + 1) m))
    ∙ ap (λ (b : Bool). ltb (at r k) 2 && b) (read_next r (k + 1) n (bit (flag_at r (k + 1 + n)) ∷ bytes_from r (k + 1 + n + 1) m) ∙ flag_first r (k + 1 + n) m)

pub flags_both : (r : List ℕ) (k n m : ℕ) → stands (bit (flag_at r k) ∷ (bytes_from r (k + 1) n ++ (bit (flag_at r (k + 1 + n)) ∷ bytes_from r (k + 1 + n + 1) m))) k r
    ≡ (ltb (at r k) 2 && ltb (at r (k + 1 + n)) 2)
flags_both = kept_both (λ x. eqb x 1) refl refl

-- ---- the phase, with the arguments

pub arguments_are : (r : List ℕ) → arguments_in (drop 3 r) ≡ bytes_from r 3 6
unfolding bytes_from
arguments_are r = simp get_or-drop

module _ (r : List ℕ) (b : Bytes r) where
  tag_first : (n : ℕ) (l : List ℕ) → at r 0 ≡ n → stands (n ∷ l) 0 r ≡ stands l 1 r
  unfolding stands
  tag_first n l e = rw (eq-eqb (at r 0) n e)

  arguments_clear : (g : ℕ) → every is_zero (drop g (arguments_in (drop 3 r))) ≡ clear (3 + g) (6 - g) r
  arguments_clear g = ap (λ (l : List ℕ). every is_zero (drop g l)) (arguments_are r) ∙ zeros_from_lem r g 3 6

  -- where the tag alone stands in front of the arguments
  tag_clear : (n : ℕ) (m : Bool) → at r 0 ≡ n → (stands (n ∷ 0 ∷ 0 ∷ []) 0 r && (every is_zero (arguments_in (drop 3 r)) && m)) ≡ (clear 1 8 r && m)
  tag_clear n m e =
      ap (λ (t : Bool). t && (every is_zero (arguments_in (drop 3 r)) && m)) (tag_first n (0 ∷ 0 ∷ []) e)
      ∙ ap (λ (t : Bool). clear 1 2 r && (t && m)) (arguments_clear 0)
      ∙ sym (and_assoc (clear 1 2 r) (clear 3 6 r) m)
      ∙ ap (λ (t : Bool). t && m) (sym (clear_add 2 6 1 r))

  clear_idle : at r 0 ≡ 0 → phase_stands (edition_in r) Idle r ≡ clear 1 25 r
  unfolding phase_stands sound_phase canonical_phase
  clear_idle e = tag_clear 0 (clear 9 6 r && clear 15 11 r) e ∙ ap (λ (t : Bool). clear 1 8 r && t) (sym (clear_add 6 11 9 r)) ∙ sym (clear_add 8 17 1 r)

  clear_prefix : at r 0 ≡ 1 → phase_stands (edition_in r) Prefix r ≡ clear 1 25 r
  unfolding phase_stands sound_phase canonical_phase
  clear_prefix e = tag_clear 1 (clear 9 6 r && clear 15 11 r) e ∙ ap (λ (t : Bool). clear 1 8 r && t) (sym (clear_add 6 11 9 r)) ∙ sym (clear_add 8 17 1 r)

  pub phase_low : (t : Bool) → at r 0 < 2 → t ≡ clear 1 25 r → t ≡ phase_holds r
  phase_low t h e =
      e ∙ elim (ℕ_discrete (at r 0) 1) [
        | yes o ↦ sym (clear_prefix o) ∙ ap (λ (p : Phase). phase_stands (edition_in r) p r) (phase_prefix r (at r 0) refl o)
        | no o ↦ sym (clear_idle (omega arith)) ∙ ap (λ (p : Phase). phase_stands (edition_in r) p r) (phase_idle r (at r 0) refl o (λ z. omega arith) (λ z. omega arith) (λ z. omega arith))
      ]

  pub phase_high : 4 < at r 0 → false ≡ phase_holds r
  unfolding phase_stands sound_phase canonical_phase stands
  phase_high h =
      let f : eqb (at r 0) 0 ≡ false = ne_eqb (at r 0) 0 (λ z. omega arith) in
      let d : phase_stands (edition_in r) Idle r ≡ false = rw f in
      sym d ∙ ap (λ (p : Phase). phase_stands (edition_in r) p r) (phase_idle r (at r 0) refl (λ z. omega arith) (λ z. omega arith) (λ z. omega arith) (λ z. omega arith))

  gathering_read : at r 0 ≡ 2 → stands (2 ∷ at r 1 ∷ at r 2 ∷ []) 0 r ≡ true
  unfolding bytes_from
  gathering_read e = tag_first 2 (at r 1 ∷ at r 2 ∷ []) e ∙ stands_read r 1 2

  clear_gathering : at r 0 ≡ 2 → phase_stands (edition_in r) (Gathering (at r 1) (at r 2)) r ≡ (sound_gathering (edition_in r) (at r 1) (at r 2) && (clear (3 + at r 2) (6 - at r 2) r && clear 9 17 r))
  unfolding phase_stands sound_phase canonical_phase
  clear_gathering e =
      rw (and-true (sound_gathering (edition_in r) (at r 1) (at r 2)), gathering_read e, arguments_clear (at r 2), clear_add 6 11 9 r)

  pub gathering_holds : at r 0 ≡ 2 → phase_holds r ≡ (sound_gathering (edition_in r) (at r 1) (at r 2) && (clear (3 + at r 2) (9 - (3 + at r 2)) r && clear 9 17 r))
  gathering_holds e =
      let n : 9 - (3 + at r 2) ≡ 6 - at r 2 = omega arith in
      ap (λ (p : Phase). phase_stands (edition_in r) p r) (sym (phase_gathering r (at r 0) refl (at r 1) (at r 2) e refl refl)) ∙ rw n (clear_gathering e)

  inline_plain : Phase
  inline_plain = Inline (at r 9) (at r 10) (at r 11) (at r 12) (at r 13 + 256 * at r 14)

  inline_is : inline_of (drop 9 r) ≡ inline_plain
  unfolding inline_plain
  inline_is = simp get_or-drop

  inline_read : stands (data_bytes inline_plain) 9 r ≡ true
  unfolding inline_plain bytes_from
  inline_read = rw (low_is (at r 13) (at r 14) (b 13), high_is (at r 13) (at r 14) (b 13)) (stands_read r 9 6)

  clear_inline : at r 0 ≡ 3 → phase_stands (edition_in r) inline_plain r ≡ (sound_inline (at r 9) (at r 10) (at r 11) (at r 12) (at r 13 + 256 * at r 14) && (clear 1 8 r && clear 15 11 r))
  unfolding inline_plain phase_stands sound_phase canonical_phase
  clear_inline e =
      let s = sound_inline (at r 9) (at r 10) (at r 11) (at r 12) (at r 13 + 256 * at r 14) in
      rw (and-true s)
      (ap (λ (t : Bool). s && t) (tag_clear 3 (stands (data_bytes inline_plain) 9 r && clear 15 11 r) e ∙ ap (λ (t : Bool). clear 1 8 r && (t && clear 15 11 r)) inline_read))

  pub inline_holds : at r 0 ≡ 3 → phase_holds r ≡ (sound_inline (at r 9) (at r 10) (at r 11) (at r 12) (at r 13 + 256 * at r 14) && (clear 1 8 r && clear 15 11 r))
  inline_holds e = ap (λ (p : Phase). phase_stands (edition_in r) p r) (sym (phase_inline r (at r 0) refl inline_plain e (sym inline_is))) ∙ clear_inline e

  upload_plain : Phase
  upload_plain = Upload (at r 15) (at r 16 + 256 * at r 17) (at r 18 + 256 * at r 19) (at r 20 + 256 * at r 21) (flag_at r 22) (at r 23) (at r 24 + 256 * at r 25)

  upload_is : upload_of (drop 15 r) ≡ upload_plain
  unfolding upload_plain
  upload_is = simp get_or-drop

  upload_read : stands (upload_bytes upload_plain) 15 r ≡ ltb (at r 22) 2
  unfolding upload_plain bytes_from
  upload_read =
      rw (
        low_is (at r 16) (at r 17) (b 16),
        high_is (at r 16) (at r 17) (b 16),
        low_is (at r 18) (at r 19) (b 18),
        high_is (at r 18) (at r 19) (b 18),
        low_is (at r 20) (at r 21) (b 20),
        high_is (at r 20) (at r 21) (b 20),
        low_is (at r 24) (at r 25) (b 24),
        high_is (at r 24) (at r 25) (b 24),
      )
      (read_next r 15 7 (bit (flag_at r 22) ∷ bytes_from r 23 3) ∙ flag_first r 22 3)

  -- an upload of size z, n bytes stored, m milliseconds after its last byte
  abbrev upload_sound : ℕ → ℕ → ℕ → Bool
  upload_sound z n m = sound_upload z n m && canonical_upload (at r 15) (flag_at r 22) (at r 23)

  clear_upload : at r 0 ≡ 4 → phase_stands (edition_in r) upload_plain r
      ≡ (upload_sound (at r 18 + 256 * at r 19) (at r 20 + 256 * at r 21) (at r 24 + 256 * at r 25) && (clear 1 14 r && ltb (at r 22) 2))
  unfolding upload_plain phase_stands sound_phase canonical_phase
  clear_upload e =
      ap (λ (t : Bool). upload_sound (at r 18 + 256 * at r 19) (at r 20 + 256 * at r 21) (at r 24 + 256 * at r 25) && t)
      (tag_clear 4 (clear 9 6 r && stands (upload_bytes upload_plain) 15 r) e
      ∙ ap (λ (t : Bool). clear 1 8 r && (clear 9 6 r && t)) upload_read
      ∙ sym (and_assoc (clear 1 8 r) (clear 9 6 r) (ltb (at r 22) 2))
      ∙ ap (λ (t : Bool). t && ltb (at r 22) 2) (sym (clear_add 8 6 1 r)))

  pub upload_holds : at r 0 ≡ 4 → phase_holds r
      ≡ (upload_sound (at r 18 + 256 * at r 19) (at r 20 + 256 * at r 21) (at r 24 + 256 * at r 25) && (clear 1 14 r && ltb (at r 22) 2))
  upload_holds e = ap (λ (p : Phase). phase_stands (edition_in r) p r) (sym (phase_upload r (at r 0) refl upload_plain e (sym upload_is))) ∙ clear_upload e

  -- ---- text, drawing, flow, refusals

  text_plain : text_bytes (text_of (drop 26 r)) ≡ bytes_from r 26 10 ++ (bit (flag_at r 36) ∷ bit (flag_at r 37) ∷ [])
  unfolding bytes_from
  text_plain = simp (get_or-drop, low_is (at r 26) (at r 27) (b 26), high_is (at r 26) (at r 27) (b 26), low_is (at r 28) (at r 29) (b 28), high_is (at r 28) (at r 29) (b 28))

  text_read : stands (text_bytes (text_of (drop 26 r))) 26 r ≡ (ltb (at r 36) 2 && ltb (at r 37) 2)
  unfolding bytes_from
  text_read = ap (λ (l : List ℕ). stands l 26 r) text_plain ∙ read_next r 26 10 (bit (flag_at r 36) ∷ bit (flag_at r 37) ∷ []) ∙ flags_both r 36 0 0

  -- the row is a byte
  text_sound : sound_text (text_of (drop 26 r)) ≡ leb (at r 28 + 256 * at r 29) 495
  unfolding sound_text
  text_sound = simp (get_or-drop, le-leb (at r 30) 255 (omega (arith, b 30)), and-true)

  pub text_is : text_holds r ≡ (leb (at r 28 + 256 * at r 29) 495 && (ltb (at r 36) 2 && ltb (at r 37) 2))
  unfolding text_holds
  text_is = rw (text_sound, text_read)

  other_plain : other_bytes (port_of r) ≡ bit (colour_of (at r 38)).black ∷ (bytes_from r 39 2 ++ (bit (flag_at r 41) ∷ bytes_from r 42 5))
  unfolding port_of bytes_from
  other_plain = simp (get_or-drop, low_is (at r 44) (at r 45) (b 44), high_is (at r 44) (at r 45) (b 44))

  other_read : stands (other_bytes (port_of r)) 38 r ≡ (ltb (at r 38) 2 && ltb (at r 41) 2)
  other_read = ap (λ (l : List ℕ). stands l 38 r) other_plain ∙ kept_both (λ n. (colour_of n).black) refl refl r 38 2 5

  other_sound : thresholds_fit (flow_of (drop 41 r)) ≡ ltb (at r 42 + at r 43) 80
  other_sound = simp get_or-drop

  pub others_are : other_holds r ≡ (ltb (at r 42 + at r 43) 80 && (ltb (at r 38) 2 && ltb (at r 41) 2))
  unfolding other_holds
  others_are = rw (other_sound, other_read)
