-- The phases, each way by itself.
-- Assumes nothing.
use mathlib.Core.Path.{◌≡◌, ◌∙◌, refl, sym, ap, subst}
use mathlib.Core.Bool.{Bool, true, false, cond, ◌&&◌}
use mathlib.Core.List.{List, []}
use native.Mathlib.Omega.{arith}
use Prim.Native.Nat.{ℕ, zero, suc, ◌+◌, ◌<◌, ◌≤◌}
use lib.Dec.{eqb, ltb}
use lib.ListN.{set}
use borrow.Author.Tests.{eq-eqb, ne_eqb, eqb-true, lt-ltb, le-ltb}
use Rattle.std.specs.Prelude.{Option, Some, None, is_some}
use Rattle.directory.specs.declared.Location.{Location}
use Rattle.directory.specs.Directory.{max_number, find_of}
use Rattle.storage.proofs.Laws.{stored_is}
use Rattle.file_laws.proofs.Written.{and_both}
use Rattle.state.specs.declared.Command.{Command}
use Rattle.state.specs.declared.Command.TheVariants.{Unknown, Clear, Home, SetPoint, SetPlace, WrapOn, WrapOff, ScrollOn, ScrollOff, ChooseFont, SetMetrics, SetColour, DrawPixel, DrawLine, ContinueLine, DrawFrame, FillRectangle, SetUpBar, WriteBar, SetUpStrip, ShiftStrip, ShowBitmap, DrawInline, UploadFont, UploadBitmap, DeleteFile, Purge, FlowOn, FlowOff, SetContrast, BacklightOn, BacklightOff, SetSerial}
use Rattle.state.specs.declared.Phase.{Phase}
use Rattle.state.specs.declared.Phase.TheVariants.{Idle, Prefix, Gathering, Inline, Upload}
use Rattle.state.specs.declared.Config.{Config}
use Rattle.state.specs.declared.State.{State}
use Rattle.state.specs.Editions.{newer}
use Rattle.state.specs.declared.Port.{Port}
use Rattle.state.specs.declared.Panel.{Panel}
use Rattle.state.specs.State.{state, with_phase, no_args}
use Rattle.state.specs.Commands.{command_of, arguments_of}
use Rattle.record.specs.Reading.{panel_of}
use Rattle.rules.specs.World.{World, world, edition, port, with_port, done, quietly, refused, arg, Outcome as Ruled}
use Rattle.rules.specs.Numbers.{number_bytes, number_at}
use Rattle.rules.specs.Text.{character}
use Rattle.rules.specs.Pictures.{in_phase}
use Rattle.rules.specs.Step.{obey, outside, code, argument, alone, by_phase, waits, byte, time, outcome, after, refuse}
use Rattle.outcome.specs.declared.Outcome.{Outcome}
use Rattle.outcome.specs.Outcome.{in_phase_of, sent_by}
use Rattle.outcome.specs.Contract.{Loan, found, left, Told, told_both, config_by, held, held_by, Came, Obeys}

-- ---- outside a command

pub alone_prefix : (g s : List ℕ) (st : State) (b : ℕ) → b ≡ 254 → alone (world g s st) b ≡ quietly (in_phase (world g s st) Prefix)
unfolding alone
alone_prefix g s st b e = rw (eq-eqb b 254 e)

pub alone_character : (w : World) (b : ℕ) → (b ≡ 254 → ⊥) → alone w b ≡ character w b
unfolding alone
alone_character w b h = rw (ne_eqb b 254 h)

-- ---- a command under way: its world is outside it, and a refusal ends it either way

pub after_under : (w : World) (f : Phase) (g : List ℕ) (o : Ruled) → after (with_port w (with_phase (port w) f g)) o ≡ after w o
unfolding after refuse
after_under w f g (done v l) = refl
after_under w f g (refused n l) = refl

-- a command obeyed there is what the byte comes to
obeyed_there : {t : Told} {G S P : Loan} {r : Outcome} (of : World → Ruled) (c : Command) (a : List ℕ) (pt out : Port) → out ≡ in_phase_of pt Idle
    → ((h : Config) (g s : List ℕ) (q : Panel) → of (world g s (state (config_by t h) pt q)) ≡ obey c a (outside (world g s (state (config_by t h) pt q))))
    → Obeys t (obey c a) out G S P r → Obeys t of pt G S P r
obeyed_there {t = t} {G = G} {S = S} {P = P} {r = r} of c a pt out d e o =
    record {
      came = λ h g s p.
          let k = config_by t h in
          let w = world (found G g) (found S s) (state k pt (panel_of (found P p))) in
          let q : Came (held k (found G g) (found S s) (found P p) (in_phase_of pt Idle)) (obey c a (outside w)) (held k (left G g) (left S s) (left P p) r.port) (sent_by r.reply) =
          subst (λ (x : Port). Came (held k (found G g) (found S s) (found P p) x) (obey c a (world (found G g) (found S s) (state k x (panel_of (found P p)))))
          (held k (left G g) (left S s) (left P p) r.port) (sent_by r.reply)) d (o.came h g s p) in
          rw (e h (found G g) (found S s) (panel_of (found P p)))
          (record { next = q.next ∙ ap (held_by (found P p)) (after_under w Idle no_args (obey c a (outside w))); sends = q.sends });
    }

none_there : (i : ℕ) → arg no_args i ≡ 0
none_there zero = refl
none_there (suc zero) = refl
none_there (suc (suc zero)) = refl
none_there (suc (suc (suc zero))) = refl
none_there (suc (suc (suc (suc zero)))) = refl
none_there (suc (suc (suc (suc (suc zero))))) = refl
none_there (suc (suc (suc (suc (suc (suc i)))))) = refl

pub obey_nothing : (c : Command) (w : World) → obey c no_args w ≡ obey c [] w
unfolding obey
obey_nothing Unknown w = refl
obey_nothing Clear w = refl
obey_nothing Home w = refl
obey_nothing SetPoint w = refl
obey_nothing SetPlace w = refl
obey_nothing WrapOn w = refl
obey_nothing WrapOff w = refl
obey_nothing ScrollOn w = refl
obey_nothing ScrollOff w = refl
obey_nothing ChooseFont w = refl
obey_nothing SetMetrics w = refl
obey_nothing SetColour w = refl
obey_nothing DrawPixel w = refl
obey_nothing DrawLine w = refl
obey_nothing ContinueLine w = refl
obey_nothing DrawFrame w = refl
obey_nothing FillRectangle w = refl
obey_nothing SetUpBar w = refl
obey_nothing WriteBar w = refl
obey_nothing SetUpStrip w = refl
obey_nothing ShiftStrip w = refl
obey_nothing ShowBitmap w = rw (none_there (number_bytes (edition w)), none_there (number_bytes (edition w) + 1))
obey_nothing DrawInline w = refl
obey_nothing UploadFont w = refl
obey_nothing UploadBitmap w = refl
obey_nothing DeleteFile w = refl
obey_nothing Purge w = refl
obey_nothing FlowOn w = refl
obey_nothing FlowOff w = refl
obey_nothing SetContrast w = refl
obey_nothing BacklightOn w = refl
obey_nothing BacklightOff w = refl
obey_nothing SetSerial w = refl

module _ (b : ℕ) (c : Command) (n : ℕ) (named : c ≡ command_of b) where
  module _ (w : World) (counted : n ≡ arguments_of (edition w) c) where
    pub code_gathers : (n ≡ 0 → ⊥) → code w b ≡ quietly (in_phase w (Gathering b 0))
    unfolding code
    code_gathers h = rw (← named, ← counted, ne_eqb n 0 h)

    pub code_alone : n ≡ 0 → code w b ≡ obey c [] (outside w)
    unfolding code
    code_alone e = rw (← named, ← counted, eq-eqb n 0 e)

  pub code_obeyed : {k : Config} {G S P : Loan} {r : Outcome} {pt : Port} (out : Port) → n ≡ arguments_of k.edition c → n ≡ 0 → out ≡ in_phase_of pt Idle
      → Obeys (told_both k) (obey c no_args) out G S P r → Obeys (told_both k) (λ w. code w b) pt G S P r
  code_obeyed {k = k} {pt = pt} out counted e d o =
      obeyed_there (λ w. code w b) c no_args pt out d
      (λ h g s q. code_alone (world g s (state k pt q)) counted e ∙ sym (obey_nothing c (outside (world g s (state k pt q))))) o

-- ---- arguments

-- in edition e
pub other_code : (e k i : ℕ) → (k ≡ 98 → ⊥) → false ≡ (eqb k 98 && eqb (i + 1) (number_bytes e))
other_code e k i h = rw (ne_eqb k 98 h)

-- ---- a saved bitmap's number

pub due_small : (e i : ℕ) → eqb (i + 1) (number_bytes e) ≡ true → i + 1 ≤ 2
due_small e i h = rw (eqb-true (i + 1) (number_bytes e) h) (most (eqb e newer))
  where
    most : (t : Bool) → cond t 2 1 ≤ 2
    most true = omega arith
    most false = omega arith

-- arguments come behind it
bytes_fewer : (e : ℕ) → ltb (number_bytes e) (arguments_of e ShowBitmap) ≡ true
bytes_fewer e = fewer (eqb e newer)
  where
    fewer : (t : Bool) → ltb (cond t 2 1) (cond t 4 3) ≡ true
    fewer true = refl
    fewer false = refl

module _ (g s : List ℕ) (st : State) (i b n : ℕ) (args : List ℕ) (due : eqb (i + 1) (number_bytes st.config.edition) ≡ true)
    (kept : args ≡ set st.port.line.args i b) (numbered : n ≡ number_at st.config.edition args 0) where
  pub bitmap_19 : max_number < n → argument (world g s st) 98 i b ≡ refused 19 []
  unfolding argument
  bitmap_19 h = rw (due, ← kept, ← numbered, lt-ltb max_number n h)

  module _ (f : Option Location) (low : n ≤ max_number) (sought : f ≡ find_of s 2 n) where
    pub bitmap_22 : f ≡ None → argument (world g s st) 98 i b ≡ refused 22 []
    unfolding argument
    bitmap_22 e = rw (due, ← kept, ← numbered, le-ltb max_number n low, ← stored_is s 2 n f false sought (sym (ap is_some e)))

    pub bitmap_found : (o : Location) → f ≡ Some o → argument (world g s st) 98 i b ≡ quietly (with_port (world g s st) (with_phase st.port (Gathering 98 (i + 1)) args))
    unfolding argument command_of
    bitmap_found o e =
        let k : ltb (i + 1) (arguments_of st.config.edition ShowBitmap) ≡ true = rw (eqb-true (i + 1) (number_bytes st.config.edition) due) (bytes_fewer st.config.edition) in
        rw (due, ← kept, ← numbered, le-ltb max_number n low, ← stored_is s 2 n f true sought (sym (ap is_some e)), k)

-- ---- other arguments

module _ (e k i : ℕ) (t : Bool) (tested : t ≡ (eqb k 98 && eqb (i + 1) (number_bytes e))) (holds : t ≡ true) where
  pub due_is : eqb (i + 1) (number_bytes e) ≡ true
  due_is = (and_both (eqb k 98) (eqb (i + 1) (number_bytes e)) (sym tested ∙ holds)).1

  pub bitmap_is : (w : World) (b : ℕ) → argument w k i b ≡ argument w 98 i b
  bitmap_is w b = let p = and_both (eqb k 98) (eqb (i + 1) (number_bytes e)) (sym tested ∙ holds) in rw (eqb-true k 98 p.0)

module _ (r : Config) (pt : Port) (k i b : ℕ) (t : Bool) (c : Command) (n : ℕ) (a : List ℕ) (tested : t ≡ (eqb k 98 && eqb (i + 1) (number_bytes r.edition))) (other : t ≡ false)
    (named : c ≡ command_of k) (counted : n ≡ arguments_of r.edition c) (kept : a ≡ set pt.line.args i b) where
  pub argument_kept : (g s : List ℕ) (q : Panel) → i + 1 < n
      → argument (world g s (state r pt q)) k i b ≡ quietly (world g s (state r (with_phase pt (Gathering k (i + 1)) a) q))
  unfolding argument
  argument_kept g s q h = rw (← tested, other, ← named, ← counted, lt-ltb (i + 1) n h, kept)

  pub argument_last : (g s : List ℕ) (q : Panel) → n ≤ i + 1 → argument (world g s (state r pt q)) k i b ≡ obey c a (outside (world g s (state r pt q)))
  unfolding argument
  argument_last g s q h = rw (← tested, other, ← named, ← counted, le-ltb (i + 1) n h, kept)

  pub argument_obeyed : {G S P : Loan} {o : Outcome} (out : Port) → n ≤ i + 1 → out ≡ in_phase_of pt Idle → Obeys (told_both r) (obey c a) out G S P o
      → Obeys (told_both r) (λ w. argument w k i b) pt G S P o
  argument_obeyed out l d o = obeyed_there (λ w. argument w k i b) c a pt out d (λ h g s q. argument_last g s q l) o

-- ---- the phase

pub in_idle : (w : World) (b : ℕ) → (port w).line.phase ≡ Idle → outcome w (byte b) ≡ alone w b
unfolding by_phase
in_idle w b e = ap (λ (q : Phase). by_phase q w b) e

-- ---- time

abbrev Calm : Phase → Type 0
Calm p = (sort number size stored : ℕ) (waiting : Bool) (held waited : ℕ) → p ≡ Upload sort number size stored waiting held waited → ⊥

calm_waits : (p : Phase) (w : World) (ms : ℕ) → Calm p → waits p w ms ≡ quietly w
unfolding waits
calm_waits Idle w ms h = refl
calm_waits Prefix w ms h = refl
calm_waits (Gathering code got) w ms h = refl
calm_waits (Inline x1 y1 x2 y2 came) w ms h = refl
calm_waits (Upload sort number size stored waiting held waited) w ms h = absurd (h sort number size stored waiting held waited refl)

-- no upload is under way
pub time_calm : (w : World) (ms : ℕ) → Calm (port w).line.phase → outcome w (time ms) ≡ quietly w
time_calm w ms h = calm_waits (port w).line.phase w ms h
