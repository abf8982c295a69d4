-- A piece obeyed as far as the reply room goes.
-- What contracts of private functions cite, and no rule.
-- Assumes nothing.
use Rattle.std.specs.Prelude.{◌≡◌, List, cond, ℕ, eqb, length, take, drop}
use Rattle.std.proofs.lemmas.List.Edits.{sets}
use Rattle.state.specs.declared.Config.{Config}
use Rattle.state.specs.declared.Port.{Port}
use Rattle.state.specs.State.{state}
use Rattle.record.specs.Layout.{panel_at}
use Rattle.record.specs.Reading.{panel_of}
use Rattle.record.specs.Writing.{panel_bytes, encode_of}
use Rattle.rules.specs.World.{World, world}
use Rattle.rules.specs.Step.{Input}
use Rattle.rules.specs.Calls.{run, said, taken}
use Rattle.calls.specs.Memory.{Kept}

-- the panel's bytes, written as the layout has it
pub record Written (l : List ℕ) : Type 0 where
  pub again : l ≡ panel_bytes (panel_of l)

-- from world w by inputs p into replies r: world v, replies q, so many consumed and replied
pub record Ran (w : World) (p : List Input) (r : List ℕ) (v : World) (q : List ℕ) (answer consumed replied : ℕ) : Type 0 where
  pub kept : Kept v
  pub count : consumed ≡ taken w (length r) p
  pub next : v ≡ run w (take consumed p)
  pub sent : q ≡ sets r 0 (said w (take consumed p))
  pub long : replied ≡ length (said w (take consumed p))
  pub says : answer ≡ cond (eqb consumed (length p)) 0 5

-- the same from framebuffer g, store s, configuration h, port t and the panel in the record m to g', s', t' and the record m', which has them all
pub record RanOn (g s m : List ℕ) (h : Config) (t : Port) (p : List Input) (r g' s' m' : List ℕ) (t' : Port) (q : List ℕ) (answer consumed replied : ℕ) : Type 0 where
  pub ran : Ran (world g s (state h t (panel_of (drop panel_at m)))) p r (world g' s' (state h t' (panel_of (drop panel_at m')))) q answer consumed replied
  pub record_is : m' ≡ encode_of (state h t' (panel_of (drop panel_at m')))
