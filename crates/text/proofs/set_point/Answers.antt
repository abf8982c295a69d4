use Prim.Native.Nat.{ℕ}
use mathlib.Core.Path.{refl, ap}
use Rattle.rules.specs.Text.{at_point}
use Rattle.outcome.proofs.Laws.{obeys_done, done_with, put_with}
use Rattle.text.proofs.set_point.Goals as goal

pub returns : goal.returns
returns c = obeys_done _ (done_with (put_with c.args.port (ap (λ (x : ℕ). at_point c.args.port.text x c.args.y) c.from.ensures) c.put_text.ensures) c.done.ensures) (λ p. refl) (λ h g s p. refl)
