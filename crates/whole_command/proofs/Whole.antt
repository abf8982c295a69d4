-- A command that stands whole, each way by itself.
-- Assumes nothing.
use mathlib.Core.Path.{◌≡◌, ◌∙◌, refl, sym, ap, subst}
use mathlib.Core.Bool.{Bool, true, false, cond, ◌&&◌}
use mathlib.Core.List.{List, [], ◌∷◌, ◌++◌}
use native.Mathlib.Omega.{arith}
use native.Mathlib.Nat.{add-zero, le_of_lt, min-eq_left, min-eq_right}
use native.Mathlib.Decide.{dec_lt}
use Prim.Native.Nat.{ℕ, suc, ◌+◌, ◌-◌, ◌<◌, ◌≤◌, min}
use lib.ListN.{length, take, drop, set, length-drop}
use lib.Seq.{sets, take_all}
use Rattle.refusals.specs.Refusals.{unknown_command}
use Rattle.state.specs.declared.Command.{Command}
use Rattle.state.specs.declared.Phase.{Phase}
use Rattle.state.specs.declared.Port.{Port}
use Rattle.state.specs.State.{no_args}
use Rattle.state.specs.Commands.{command_of, arguments_of}
use Rattle.rules.specs.World.{World, refused}
use Rattle.rules.specs.Step.{obey}
use Rattle.rules.proofs.GoodByte.{six_most}
use Rattle.outcome.specs.declared.Outcome.{Outcome}
use Rattle.outcome.specs.Contract.{Told, Loan, Obeys}
use Rattle.whole_command.specs.Whole.{is_idle, command_in, fixed_arguments, length_in, is_whole, whole_in}

-- ---- whether one stands there

there : (i t : Bool) (n : ℕ) → 0 < cond (i && t) n 0 → (i ≡ true) × (t ≡ true) × (cond (i && t) n 0 ≡ n)
there false t n h = absurd (omega (arith, h))
there true false n h = absurd (omega (arith, h))
there true true n h = (refl, refl, refl)

-- where one stands, all of it is there
pub whole_there : (d : ℕ) (p : Phase) (l : List ℕ) → 0 < whole_in d p l → (is_idle p ≡ true) × (is_whole d l ≡ true) × (whole_in d p l ≡ length_in d l)
unfolding whole_in
whole_there d p l h = there (is_idle p) (is_whole d l) (length_in d l) h

-- ---- its arguments

pub sets_append : (g : List ℕ) (i : ℕ) (l m : List ℕ) → sets g i (l ++ m) ≡ sets (sets g i l) (i + length l) m
sets_append g i [] m = ap (λ (k : ℕ). sets g k m) (sym (add-zero i))
sets_append g i (a ∷ l) m =
    let n : suc i + length l ≡ i + suc (length l) = omega arith in
    sets_append (set g i a) (suc i) l m ∙ ap (λ (k : ℕ). sets (sets (set g i a) (suc i) l) k m) n

take_least : (n : ℕ) (l : List ℕ) → take (min n (length l)) l ≡ take n l
take_least n l =
    elim (dec_lt n (length l)) [
      | yes h ↦ let e : min n (length l) ≡ n = min-eq_left (le_of_lt h) in ap (λ (m : ℕ). take m l) e
      | no h ↦
          let g : length l ≤ n = omega arith in
          let e : min n (length l) ≡ length l = min-eq_right g in
          ap (λ (m : ℕ). take m l) e ∙ take_all (length l) l (omega arith) ∙ sym (take_all n l g)
    ]

-- ---- obeyed

-- without a code there is no command
pub short_unknown : (d : ℕ) (l : List ℕ) → length l < 2 → (w : World) → obey (command_in l) (fixed_arguments d l) w ≡ refused unknown_command []
unfolding obey command_of
short_unknown d [] h w = refl
short_unknown d (b ∷ []) h w = refl
short_unknown d (b ∷ c ∷ l) h w = absurd (omega (arith, h))

module _ (d : ℕ) (l : List ℕ) (c : Command) (n m : ℕ) (named : c ≡ command_in l) (counted : n ≡ arguments_of d c) (least : m ≡ min n (length l - 2)) where
  pub room_there : 2 ≤ length l → (2 + m ≤ length l) × (m ≤ 6)
  room_there h = (omega (arith, least), omega (arith, least, counted, six_most d c))

  pub whole_obeyed : {t : Told} {pt : Port} {G S P : Loan} {r : Outcome} (a : List ℕ) → a ≡ sets no_args 0 (take m (drop 2 l)) → Obeys t (obey c a) pt G S P r
      → Obeys t (obey (command_in l) (fixed_arguments d l)) pt G S P r
  whole_obeyed {t} {pt} {G} {S} {P} {r} a e o =
      let k : List ℕ = drop 2 l in
      let f : a ≡ fixed_arguments d l =
      e ∙ ap (λ (j : ℕ). sets no_args 0 (take j k)) (least ∙ ap (min n) (sym (length-drop 2 l))) ∙ ap (sets no_args 0) (take_least n k)
      ∙ ap (λ (j : ℕ). sets no_args 0 (take j k)) (counted ∙ ap (arguments_of d) named) in
      subst (λ (x : Command). Obeys t (obey x (fixed_arguments d l)) pt G S P r) named (subst (λ (x : List ℕ). Obeys t (obey c x) pt G S P r) f o)
