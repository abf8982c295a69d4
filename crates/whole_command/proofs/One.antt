-- What is obeyed at once comes to what the rules say of its bytes one by one.
-- Assumes nothing.
use mathlib.Core.Path.{◌≡◌, ◌∙◌, refl, sym, ap, subst}
use mathlib.Core.Bool.{true, false, not, ◌&&◌, true≢false}
use mathlib.Core.List.{List, [], ◌∷◌, ◌++◌, append-nil}
use native.Mathlib.Omega.{arith}
use Prim.Native.Nat.{ℕ, suc, ◌+◌, ◌-◌, ◌<◌, ◌≤◌}
use lib.Dec.{eqb, leb}
use lib.ListN.{length, get_or, take, set}
use lib.Seq.{sets, length-take-le}
use borrow.Author.Tests.{le-ltb, eqb-true, eqb-false, leb-true, not-true}
use Rattle.file_laws.proofs.Written.{and_both}
use Rattle.state.specs.declared.Phase.{Phase}
use Rattle.state.specs.declared.Phase.TheVariants.{Idle, Prefix, Gathering, Inline, Upload}
use Rattle.state.specs.State.{with_phase, no_args}
use Rattle.state.specs.Commands.{command_of, arguments_of}
use Rattle.rules.specs.World.{World, edition, port, panel, with_port, quietly, Outcome as Ruled}
use Rattle.rules.specs.Pictures.{in_phase}
use Rattle.rules.specs.Step.{obey, outside, code, by_phase, Input, byte, outcome, after, sent, step, replies}
use Rattle.rules.specs.Calls.{bytes, run, said, taken}
use Rattle.rules.proofs.Replies.{replies_most}
use Rattle.whole_command.specs.Whole.{is_idle, command_in, fixed_arguments, length_in, is_whole, whole_in}
use Rattle.whole_command.proofs.Whole.{whole_there}
use Rattle.interpreter.proofs.Phases.{after_under, alone_prefix, in_idle, code_gathers, code_alone, obey_nothing, other_code, argument_kept, argument_last}

-- from world w by inputs l to world v, sending s; with two free reply bytes before them all are taken
pub record AsOne (w : World) (l : List Input) (v : World) (s : List ℕ) : Type 0 where
  pub next : run w l ≡ v
  pub sends : said w l ≡ s
  pub few : length s ≤ 2
  pub whole : (room : ℕ) (r : List Input) → 2 ≤ room → taken w room (l ++ r) ≡ length l + taken v (room - length s) r

as_last : {w v : World} {i : Input} {s : List ℕ} → step w i ≡ v → replies w i ≡ s → AsOne w (i ∷ []) v s
unfolding run said taken
as_last {w} {v} {i} {s} e d =
    record {
      next = e;
      sends = append-nil (replies w i) ∙ d;
      few = rw (← d) (replies_most w i);
      whole = λ room r h. rw (le-ltb room 2 h, e, d) refl;
    }

-- an input before them that sends nothing
as_more : {w u v : World} {i : Input} {l : List Input} {s : List ℕ} → step w i ≡ u → replies w i ≡ [] → AsOne u l v s → AsOne w (i ∷ l) v s
unfolding run said taken
as_more {w} {u} {v} {i} {l} {s} e d o =
    record {
      next = rw e o.next;
      sends = rw (e, d) o.sends;
      few = o.few;
      whole = λ room r h.
          let z : room - 0 ≡ room = omega arith in
          rw (le-ltb room 2 h, e, d, z) (omega (arith, o.whole room r h));
    }

-- ---- a command under way

module _ (w : World) (c : ℕ) (other : c ≡ 98 → ⊥) where
  abbrev most : ℕ
  most = arguments_of (edition w) (command_of c)

  abbrev under : ℕ → List ℕ → World
  under k g = with_port w (with_phase (port w) (Gathering c k) g)

  abbrev ends : List ℕ → Ruled
  ends a = obey (command_of c) a (outside w)

  kept : (k : ℕ) (g : List ℕ) (b : ℕ) → k + 1 < most → outcome (under k g) (byte b) ≡ quietly (under (k + 1) (set g k b))
  unfolding by_phase
  kept k g b h =
      argument_kept w.state.config (port (under k g)) c k b false (command_of c) most (set g k b) (other_code (edition w) c k other) refl refl refl refl
      w.framebuffer w.store (panel w) h

  last : (k : ℕ) (g : List ℕ) (b : ℕ) → most ≤ k + 1 → outcome (under k g) (byte b) ≡ ends (set g k b)
  unfolding by_phase
  last k g b h =
      argument_last w.state.config (port (under k g)) c k b false (command_of c) most (set g k b) (other_code (edition w) c k other) refl refl refl refl
      w.framebuffer w.store (panel w) h

  gathers : (a : List ℕ) (b k : ℕ) (g : List ℕ) → k + suc (length a) ≡ most
      → AsOne (under k g) (bytes (b ∷ a)) (after w (ends (sets g k (b ∷ a)))) (sent (ends (sets g k (b ∷ a))))
  unfolding bytes step replies after
  gathers [] b k g e =
      let o = last k g b (omega (arith, e)) in
      as_last (ap (after (under k g)) o ∙ after_under w (Gathering c k) g (ends (set g k b))) (ap sent o)
  gathers (b' ∷ a) b k g e =
      let o = kept k g b (omega (arith, e)) in
      let n : k + 1 ≡ suc k = omega arith in
      let m : k + 1 + suc (length a) ≡ most = omega (arith, e) in
      as_more (ap (after (under k g)) o) (ap sent o)
      (subst (λ (j : ℕ). AsOne (under (k + 1) (set g k b)) (bytes (b' ∷ a)) (after w (ends (sets (set g k b) j (b' ∷ a)))) (sent (ends (sets (set g k b) j (b' ∷ a))))) n
      (gathers a b' (k + 1) (set g k b) m))

  -- the code: what is gathered begins, or there is nothing to gather
  begins : (a : List ℕ) → length a ≡ most
      → AsOne (in_phase w Prefix) (bytes (c ∷ a)) (after w (ends (sets no_args 0 a))) (sent (ends (sets no_args 0 a)))
  unfolding bytes step replies after by_phase
  begins [] e =
      let o : code (in_phase w Prefix) c ≡ ends no_args =
      code_alone c (command_of c) most refl (in_phase w Prefix) refl (sym e) ∙ sym (obey_nothing (command_of c) (outside w)) in
      as_last (ap (after (in_phase w Prefix)) o ∙ after_under w Prefix no_args (ends no_args)) (ap sent o)
  begins (b ∷ a) e =
      let o = code_gathers c (command_of c) most refl (in_phase w Prefix) refl (λ z. absurd (omega (arith, e, z))) in
      as_more (ap (after (in_phase w Prefix)) o) (ap sent o) (gathers a b 0 no_args (omega (arith, e)))

  -- the prefix, where nothing is under way
  commanded : (a : List ℕ) → length a ≡ most → (port w).line.phase ≡ Idle → outside w ≡ w
      → AsOne w (bytes (254 ∷ c ∷ a)) (after w (obey (command_of c) (sets no_args 0 a) w)) (sent (obey (command_of c) (sets no_args 0 a) w))
  unfolding bytes step replies after
  commanded a e f calm =
      let o = in_idle w 254 f ∙ alone_prefix w.framebuffer w.store w.state 254 refl in
      as_more (ap (after w) o) (ap sent o)
      (subst (λ (x : World). AsOne (in_phase w Prefix) (bytes (c ∷ a)) (after w (obey (command_of c) (sets no_args 0 a) x)) (sent (obey (command_of c) (sets no_args 0 a) x))) calm
      (begins a e))

-- ---- at the front of what is left

idle_is : (p : Phase) → is_idle p ≡ true → p ≡ Idle
idle_is Idle e = refl
idle_is Prefix e = absurd (true≢false (sym e))
idle_is (Gathering code got) e = absurd (true≢false (sym e))
idle_is (Inline x1 y1 x2 y2 came) e = absurd (true≢false (sym e))
idle_is (Upload sort number size stored waiting held waited) e = absurd (true≢false (sym e))

module _ (w : World) where
  whole_front : (l : List ℕ) → (port w).line.phase ≡ Idle → outside w ≡ w → is_whole (edition w) l ≡ true
      → AsOne w (bytes (take (length_in (edition w) l) l)) (after w (obey (command_in l) (fixed_arguments (edition w) l) w)) (sent (obey (command_in l) (fixed_arguments (edition w) l) w))
  unfolding is_whole
  whole_front [] f calm e = absurd (true≢false (sym e))
  whole_front (b ∷ []) f calm e =
      let p = and_both (eqb b 254 && not (eqb 0 98)) (leb (length_in (edition w) (b ∷ [])) 1) e in
      absurd (omega (arith, leb-true (length_in (edition w) (b ∷ [])) 1 p.1))
  whole_front (b ∷ c ∷ r) f calm e =
      let n : ℕ = arguments_of (edition w) (command_of c) in
      let p = and_both (eqb b 254 && not (eqb c 98)) (leb (2 + n) (suc (suc (length r)))) e in
      let q = and_both (eqb b 254) (not (eqb c 98)) p.0 in
      let fits = leb-true (2 + n) (suc (suc (length r))) p.1 in
      let k : 2 + n ≡ suc (suc n) = omega arith in
      let t : take (2 + n) (b ∷ c ∷ r) ≡ 254 ∷ c ∷ take n r =
      ap (λ (m : ℕ). take m (b ∷ c ∷ r)) k ∙ ap (λ (x : ℕ). x ∷ c ∷ take n r) (eqb-true b 254 q.0) in
      rw t (commanded w c (eqb-false c 98 (not-true (eqb c 98) q.1)) (take n r) (length-take-le n r (omega (arith, fits))) f calm)

  -- a whole command, where no argument is left of another
  pub whole_one : (l : List ℕ) → ((port w).line.phase ≡ Idle → outside w ≡ w) → 0 < whole_in (edition w) (port w).line.phase l
      → AsOne w (bytes (take (whole_in (edition w) (port w).line.phase l) l)) (after w (obey (command_in l) (fixed_arguments (edition w) l) w)) (sent (obey (command_in l) (fixed_arguments (edition w) l) w))
  whole_one l calm h =
      let t = whole_there (edition w) (port w).line.phase l h in
      let f = idle_is (port w).line.phase t.0 in
      rw t.2 (whole_front l f (calm f) t.1)

  pub input_one : (i : Input) → AsOne w (i ∷ []) (after w (outcome w i)) (sent (outcome w i))
  unfolding step replies
  input_one i = as_last refl refl

pub whole_fits : (d : ℕ) (p : Phase) (l : List ℕ) → 0 < whole_in d p l → whole_in d p l ≤ length l
unfolding is_whole
whole_fits d p l h =
    let t = whole_there d p l h in
    let e = (and_both (eqb (get_or l 0 0) 254 && not (eqb (get_or l 1 0) 98)) (leb (length_in d l) (length l)) t.1).1 in
    rw t.2 (leb-true (length_in d l) (length l) e)
