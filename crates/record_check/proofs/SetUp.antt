-- Bars, strips and the serial number: set up, or bytes that are 0.
-- Assumes nothing.
use mathlib.Core.Path.{◌≡◌, refl, sym, ap, ◌∙◌}
use mathlib.Core.Bool.{Bool, true, false, cond, not, ◌&&◌, ◌||◌, and_assoc, and-true, and_comm}
use mathlib.Core.List.{List}
use Prim.Native.Nat.{ℕ, suc, ◌+◌, ◌-◌}
use native.Mathlib.Omega.{arith}
use native.Mathlib.Decide.{ℕ_discrete}
use lib.Dec.{eqb, ltb}
use lib.ListN.{drop, replicate}
use lib.Seq.{get_or-drop}
use borrow.Author.Tests.{eqb-true, ne_eqb}
use Rattle.pixels.proofs.Tests.{and_one, and_yes}
use Rattle.queue.specs.Record.{at, bytes_from}
use Rattle.state.specs.Soundness.{every, sound_corners, sound_set_up, sound_bar, sound_strip}
use Rattle.state.specs.Canonical.{canonical_bar, canonical_strip}
use Rattle.state.specs.State.{bar_of}
use Rattle.record.specs.Layout.{bars_at, strips_at}
use Rattle.record.specs.Reading.{flag_at, slot_of, strip_of}
use Rattle.record_check.specs.Parts.{stands, clear, every_of, slot_holds, strip_holds}
use Rattle.record.proofs.Same.{both}
use Rattle.record_check.proofs.Standing.{stands_front, clear_add, every_clear}
use Rattle.record_check.proofs.Testing.{zero_flag, flag_first}

pub flag_or_clear : (n : ℕ) (z : Bool) → ((eqb n 1 || z) && ltb n 2) ≡ (eqb n 1 || (eqb n 0 && z))
flag_or_clear n z = elim (ℕ_discrete n 1) [ yes e ↦ rw e | no e ↦ rw (ne_eqb n 1 e, ← zero_flag n e) (and_comm z (eqb n 0)) ]

by_flag : (f a c : Bool) → ((not f || a) && (f || c)) ≡ cond f a c
by_flag true a c = and-true a
by_flag false a c = refl

set_up_or_clear : (n : ℕ) (a z : Bool) → ((not (eqb n 1) || a) && (eqb n 1 || z) && ltb n 2) ≡ cond (eqb n 1) a (eqb n 0 && z)
set_up_or_clear n a z =
    and_assoc (not (eqb n 1) || a) (eqb n 1 || z) (ltb n 2)
    ∙ ap (λ (t : Bool). (not (eqb n 1) || a) && t) (flag_or_clear n z)
    ∙ by_flag (eqb n 1) a (eqb n 0 && z)

module _ (h : ℕ) (l : List ℕ) where
  slot_is : slot_holds h l ≡ cond (flag_at l 0) (sound_set_up h (slot_of l).bar) (clear 0 7 l)
  unfolding slot_holds sound_bar canonical_bar every stands bytes_from
  slot_is = ap (λ (t : Bool). sound_bar h (slot_of l) && canonical_bar (slot_of l) && t) (flag_first l 0 6) ∙ set_up_or_clear (at l 0) (sound_set_up h (slot_of l).bar) (clear 1 6 l)

  strip_is : strip_holds h l ≡ cond (flag_at l 0) (sound_corners h (at l 1) (at l 2) (at l 3) (at l 4)) (clear 0 5 l)
  unfolding strip_holds sound_strip canonical_strip every stands bytes_from
  strip_is =
      ap (λ (t : Bool). sound_strip h (strip_of l) && canonical_strip (strip_of l) && t) (flag_first l 0 4)
      ∙ set_up_or_clear (at l 0) (sound_corners h (at l 1) (at l 2) (at l 3) (at l 4)) (clear 1 4 l)

  clear_front : (n : ℕ) → clear 0 (suc n) l ≡ true → flag_at l 0 ≡ false
  unfolding stands
  clear_front n e = rw (eqb-true (at l 0) 0 (and_one (eqb (at l 0) 0) (clear 1 n l) e))

  blank_slot : clear 0 7 l ≡ true → slot_holds h l ≡ true
  blank_slot e = rw (slot_is, clear_front 6 e) e

  blank_strip : clear 0 5 l ≡ true → strip_holds h l ≡ true
  blank_strip e = rw (strip_is, clear_front 4 e) e

module _ (h : ℕ) (r : List ℕ) (k : ℕ) where
  front : at (drop k r) 0 ≡ at r k
  front = let z : k + 0 ≡ k = omega arith in get_or-drop k r 0 0 ∙ ap (at r) z

  set_up_lem : at r k ≡ 1 → flag_at (drop k r) 0 ≡ true
  set_up_lem e = rw (front, e)

  not_set_up_lem : (at r k ≡ 1 → ⊥) → flag_at (drop k r) 0 ≡ false
  not_set_up_lem n = rw (front, ne_eqb (at r k) 1 n)

  pub bar_set_up : (t : Bool) → at r k ≡ 1 → t ≡ sound_set_up h (bar_of (at r (k + 1)) (at r (k + 2)) (at r (k + 3)) (at r (k + 4)) (at r (k + 5)) (at r (k + 6))) → t ≡ slot_holds h (drop k r)
  bar_set_up t o e = e ∙ rw (slot_is h (drop k r), set_up_lem o) (simp get_or-drop)

  pub bar_clear : (t : Bool) → (at r k ≡ 1 → ⊥) → t ≡ clear k (k + 7 - k) r → t ≡ slot_holds h (drop k r)
  bar_clear t o e =
      let n : k + 7 - k ≡ 7 = omega arith in
      e ∙ rw (slot_is h (drop k r), not_set_up_lem o, n) (sym (stands_front (replicate 7 0) k r))

  pub strip_set_up : (t : Bool) → at r k ≡ 1 → t ≡ sound_corners h (at r (k + 1)) (at r (k + 2)) (at r (k + 3)) (at r (k + 4)) → t ≡ strip_holds h (drop k r)
  strip_set_up t o e = e ∙ rw (strip_is h (drop k r), set_up_lem o) (simp get_or-drop)

  pub strip_clear : (t : Bool) → (at r k ≡ 1 → ⊥) → t ≡ clear k (k + 5 - k) r → t ≡ strip_holds h (drop k r)
  strip_clear t o e =
      let n : k + 5 - k ≡ 5 = omega arith in
      e ∙ rw (strip_is h (drop k r), not_set_up_lem o, n) (sym (stands_front (replicate 5 0) k r))

-- nothing set up
pub graphs_clear : (h : ℕ) (r : List ℕ) → clear bars_at 152 r ≡ true → (every_of (slot_holds h) 7 (drop bars_at r) 16 && every_of (strip_holds h) 5 (drop strips_at r) 8) ≡ true
graphs_clear h r e =
    let p = both (clear bars_at 112 r) (clear strips_at 40 r) (sym (clear_add 112 40 bars_at r) ∙ e) in
    and_yes (every_of (slot_holds h) 7 (drop bars_at r) 16) (every_of (strip_holds h) 5 (drop strips_at r) 8)
    (every_clear (slot_holds h) 7 (blank_slot h) 16 (drop bars_at r) (stands_front (replicate 112 0) bars_at r ∙ p.0))
    (every_clear (strip_holds h) 5 (blank_strip h) 8 (drop strips_at r) (stands_front (replicate 40 0) strips_at r ∙ p.1))
