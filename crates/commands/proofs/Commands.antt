-- From what a command's function promises to what the command comes to.
-- Assumes nothing.
use mathlib.Core.Path.{◌≡◌, ◌∙◌, ap}
use mathlib.Core.List.{List}
use Prim.Native.Nat.{ℕ}
use Rattle.state.specs.declared.Command.{Command}
use Rattle.state.specs.declared.Config.{Config}
use Rattle.state.specs.declared.Port.{Port}
use Rattle.state.specs.declared.Panel.{Panel}
use Rattle.state.specs.State.{state}
use Rattle.rules.specs.World.{World, world, Outcome as Ruled}
use Rattle.rules.specs.Step.{obey}
use Rattle.outcome.specs.declared.Outcome.{Outcome}
use Rattle.outcome.specs.Contract.{Loan, found, Told, config_by, Obeys}
use Rattle.outcome.proofs.Laws.{moved, obeys_as}

named : (c d : Command) (a : List ℕ) (w : World) → c ≡ d → obey c a w ≡ obey d a w
named c d a w e = ap (λ (x : Command). obey x a w) e

pub obeys_command : {t t' : Told} {rule : World → Ruled} {pt : Port} {G S P G' S' P' : Loan} {r : Outcome} (c d : Command) (a : List ℕ) → c ≡ d → Obeys t rule pt G S P r
    → ((k : Config) (g s p : List ℕ) → moved t G S P (config_by t' k) (found G' g) (found S' s) (found P' p) ≡ moved t' G' S' P' k g s p)
    → ((k : Config) (g s : List ℕ) (q : Panel) → obey d a (world g s (state (config_by t' k) pt q)) ≡ rule (world g s (state (config_by t' k) pt q)))
    → Obeys t' (obey c a) pt G' S' P' r
obeys_command c d a e o u f = obeys_as o u (λ k g s p. named c d a _ e ∙ f k _ _ _)
