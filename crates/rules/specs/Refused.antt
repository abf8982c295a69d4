-- What a refusal leaves: every pixel, every byte of the store and every setting; it ends what was under way, is counted, and is the last one.
-- Assumes nothing.
use Rattle.std.specs.Prelude.{◌≡◌, ℕ, ◌+◌, ◌%◌}
use Rattle.state.specs.declared.Phase.TheVariants.{Idle}
use Rattle.state.specs.State.{no_args}
use Rattle.rules.specs.World.{World, port, panel}

pub record Unaltered (w v : World) (n : ℕ) : Type 0 where
  pub framebuffer : v.framebuffer ≡ w.framebuffer
  pub store : v.store ≡ w.store
  pub config : v.state.config ≡ w.state.config
  pub panel_same : panel v ≡ panel w
  pub text : (port v).text ≡ (port w).text
  pub drawing : (port v).drawing ≡ (port w).drawing
  pub flow : (port v).flow ≡ (port w).flow
  pub ended : (port v).line.phase ≡ Idle
  pub cleared : (port v).line.args ≡ no_args
  pub counted : (port v).refusals.count ≡ ((port w).refusals.count + 1) % 65536
  pub last : (port v).refusals.last ≡ n
