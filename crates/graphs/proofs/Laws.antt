-- The rules of these commands, each way by itself.
-- Assumes nothing.
use mathlib.Core.Path.{◌≡◌}
use mathlib.Core.Bool.{Bool, true, false, not}
use mathlib.Core.List.{List, []}
use native.Mathlib.Omega.{arith}
use Prim.Native.Nat.{ℕ, ◌%◌, ◌<◌, ◌≤◌}
use lib.Dec.{leb}
use lib.ListN.{set}
use borrow.Author.Tests.{le-leb, lt-leb}
use Rattle.bar_graph.specs.declared.Bar.{Bar}
use Rattle.bar_graph.specs.Bars.{write_of, written_bar}
use Rattle.strip_chart.specs.Strips.{shifted_strip}
use Rattle.state.specs.declared.BarSlot.{BarSlot}
use Rattle.state.specs.declared.Strip.{Strip}
use Rattle.state.specs.declared.Config.{Config}
use Rattle.state.specs.declared.Port.{Port}
use Rattle.state.specs.declared.Panel.{Panel}
use Rattle.state.specs.State.{state, bar_of, bar_slot, strip, bar_at, strip_at, with_bars, with_strips}
use Rattle.rules.specs.World.{world, quietly, refused}
use Rattle.rules.specs.Bars.{apart, set_up_bar, write_bar, set_up_strip, shift_strip}
use Rattle.graphs.specs.Graphs.{in_bounds_of}

-- ---- set up

module _ (g s : List ℕ) (pt : Port) (q : Panel) (c : Config) (n i k x1 y1 x2 y2 : ℕ) (number : i ≡ n) where
  pub bar_19 : 16 ≤ i → set_up_bar (world g s (state c pt q)) n k x1 y1 x2 y2 ≡ refused 19 []
  unfolding set_up_bar
  bar_19 a = rw (le-leb 16 n (omega arith))

  pub bar_20 : i < 16 → 4 ≤ k → set_up_bar (world g s (state c pt q)) n k x1 y1 x2 y2 ≡ refused 20 []
  unfolding set_up_bar
  bar_20 a b = rw (lt-leb 16 n (omega arith), le-leb 4 k b)

  pub bar_17 : (t : Bool) → i < 16 → k < 4 → t ≡ in_bounds_of c.height x1 y1 x2 y2 → not t ≡ true → set_up_bar (world g s (state c pt q)) n k x1 y1 x2 y2 ≡ refused 17 []
  unfolding set_up_bar
  bar_17 t a b d e = rw (lt-leb 16 n (omega arith), lt-leb 4 k b, ← d, e)

  pub bar_18 : (t u : Bool) → i < 16 → k < 4 → t ≡ in_bounds_of c.height x1 y1 x2 y2 → not t ≡ false → u ≡ apart x1 y1 x2 y2 → not u ≡ true
      → set_up_bar (world g s (state c pt q)) n k x1 y1 x2 y2 ≡ refused 18 []
  unfolding set_up_bar
  bar_18 t u a b d e f o = rw (lt-leb 16 n (omega arith), lt-leb 4 k b, ← d, e, ← f, o)

  pub bar_done : (t u : Bool) → i < 16 → k < 4 → t ≡ in_bounds_of c.height x1 y1 x2 y2 → not t ≡ false → u ≡ apart x1 y1 x2 y2 → not u ≡ false
      → set_up_bar (world g s (state c pt q)) n k x1 y1 x2 y2 ≡ quietly (world g s (state c pt (with_bars q (set q.bars n (bar_slot true (bar_of k x1 y1 x2 y2 0))))))
  unfolding set_up_bar
  bar_done t u a b d e f o = rw (lt-leb 16 n (omega arith), lt-leb 4 k b, ← d, e, ← f, o)

  pub strip_19 : 8 ≤ i → set_up_strip (world g s (state c pt q)) n x1 y1 x2 y2 ≡ refused 19 []
  unfolding set_up_strip
  strip_19 a = rw (le-leb 8 n (omega arith))

  pub strip_17 : (t : Bool) → i < 8 → t ≡ in_bounds_of c.height x1 y1 x2 y2 → not t ≡ true → set_up_strip (world g s (state c pt q)) n x1 y1 x2 y2 ≡ refused 17 []
  unfolding set_up_strip
  strip_17 t a d e = rw (lt-leb 8 n (omega arith), ← d, e)

  pub strip_18 : (t u : Bool) → i < 8 → t ≡ in_bounds_of c.height x1 y1 x2 y2 → not t ≡ false → u ≡ apart x1 y1 x2 y2 → not u ≡ true
      → set_up_strip (world g s (state c pt q)) n x1 y1 x2 y2 ≡ refused 18 []
  unfolding set_up_strip
  strip_18 t u a d e f o = rw (lt-leb 8 n (omega arith), ← d, e, ← f, o)

  pub strip_done : (t u : Bool) → i < 8 → t ≡ in_bounds_of c.height x1 y1 x2 y2 → not t ≡ false → u ≡ apart x1 y1 x2 y2 → not u ≡ false
      → set_up_strip (world g s (state c pt q)) n x1 y1 x2 y2 ≡ quietly (world g s (state c pt (with_strips q (set q.strips n (strip true x1 y1 x2 y2)))))
  unfolding set_up_strip
  strip_done t u a d e f o = rw (lt-leb 8 n (omega arith), ← d, e, ← f, o)

-- ---- writes and shifts

module _ (h : Config) (g s : List ℕ) (pt : Port) (q : Panel) (n i v : ℕ) (number : i ≡ n) where
  pub write_19 : 16 ≤ i → write_bar (world g s (state h pt q)) n v ≡ refused 19 []
  unfolding write_bar
  write_19 a = rw (le-leb 16 n (omega arith))

  module _ (b : BarSlot) (there : b ≡ bar_at q n) (few : i < 16) where
    pub write_21 : not b.on ≡ true → write_bar (world g s (state h pt q)) n v ≡ refused 21 []
    unfolding write_bar
    write_21 e = rw (lt-leb 16 n (omega arith), ← there, e)

    pub write_done : (g' : List ℕ) (w : Bar) → not b.on ≡ false → w ≡ written_bar b.bar v → g' ≡ write_of b.bar v g
        → write_bar (world g s (state h pt q)) n v ≡ quietly (world g' s (state h pt (with_bars q (set q.bars n (bar_slot true w)))))
    unfolding write_bar
    write_done g' w e d f = rw (lt-leb 16 n (omega arith), ← there, e, d, f)

module _ (h : Config) (g s : List ℕ) (pt : Port) (q : Panel) (b i : ℕ) (number : i ≡ b % 128) where
  pub shift_19 : 8 ≤ i → shift_strip (world g s (state h pt q)) b ≡ refused 19 []
  unfolding shift_strip
  shift_19 a = rw (le-leb 8 (b % 128) (omega (arith, number)))

  module _ (t : Strip) (there : t ≡ strip_at q (b % 128)) (few : i < 8) where
    pub shift_21 : not t.on ≡ true → shift_strip (world g s (state h pt q)) b ≡ refused 21 []
    unfolding shift_strip
    shift_21 e = rw (lt-leb 8 (b % 128) (omega (arith, number)), ← there, e)

    pub shift_done : (g' : List ℕ) → not t.on ≡ false → g' ≡ shifted_strip (leb 128 b) t.x1 t.y1 t.x2 t.y2 g
        → shift_strip (world g s (state h pt q)) b ≡ quietly (world g' s (state h pt q))
    unfolding shift_strip
    shift_done g' e f = rw (lt-leb 8 (b % 128) (omega (arith, number)), ← there, e, f)
