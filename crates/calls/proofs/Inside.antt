-- Every bar's rectangle lies on the framebuffer, after every input: one that is set up, since the state is sound; one that is not, since it is blank.
-- Assumes nothing.
use mathlib.Core.Path.{◌≡◌, refl}
use mathlib.Core.Bool.{Bool, true, false, ◌&&◌}
use mathlib.Core.List.{List, [], ◌∷◌, ◌++◌}
use Prim.Native.Nat.{ℕ, ◌<◌}
use native.Mathlib.Omega.{arith}
use lib.Dec.{eqb, ltb}
use lib.ListN.{length, take}
use borrow.Author.Tests.{eqb-true, ltb-true}
use Rattle.pixels.specs.Framebuffer.{width, On}
use Rattle.pixels.proofs.Tests.{and_one, and_two}
use Rattle.pixels.proofs.Fit.{rectangle_fits}
use Rattle.canvas.proofs.Heights.{height_some}
use Rattle.bar_graph.specs.declared.Bar.{Bar}
use Rattle.bar_graph.specs.Bars.{rectangle_of}
use Rattle.bar_ledger.specs.Ledger.{along}
use Rattle.state.specs.declared.BarSlot.{BarSlot}
use Rattle.state.specs.State.{no_bar, bar_at}
use Rattle.state.specs.Soundness.{every, sound_corners, sound_set_up, sound_bar}
use Rattle.state.specs.Canonical.{blank, canonical_bar}
use Rattle.state.proofs.Every.{every_at}
use Rattle.rules.specs.World.{World, height, panel}
use Rattle.rules.specs.Step.{Input, step}
use Rattle.rules.specs.Calls.{run}
use Rattle.rules.specs.Sound.{ComesAll}
use Rattle.rules.proofs.Good.{parts, height_known}
use Rattle.rules.proofs.GoodByte.{take_comes}
use Rattle.calls.specs.Memory.{Kept}
use Rattle.calls.specs.Feed.{feed_of}
use Rattle.calls.specs.List.{Board, Call, feeds, arrives, takes, consumed_all, after_call}
use Rattle.calls.specs.Bytes.{BytesInAll}

-- the last corner is on a framebuffer of h rows
record Cornered (h : ℕ) (b : Bar) : Type 0 where
  x2 : b.x2 < width
  y2 : b.y2 < h

set_up_cornered : (h : ℕ) (b : Bar) → sound_set_up h b ≡ true → Cornered h b
unfolding sound_set_up
set_up_cornered h b e =
    let c : sound_corners h b.x1 b.y1 b.x2 b.y2 ≡ true = and_one (sound_corners h b.x1 b.y1 b.x2 b.y2) _ (and_one _ (ltb b.kind 4) e) in
    let d = and_one (ltb b.x1 b.x2 && ltb b.y1 b.y2 && ltb b.x2 width) (ltb b.y2 h) c in
    record { x2 = ltb-true b.x2 240 (and_two (ltb b.x1 b.x2 && ltb b.y1 b.y2) (ltb b.x2 width) d); y2 = ltb-true b.y2 h (and_two (ltb b.x1 b.x2 && ltb b.y1 b.y2 && ltb b.x2 width) (ltb b.y2 h) c) }

blank_cornered : (h : ℕ) (b : Bar) → 0 < h → blank b ≡ true → Cornered h b
unfolding every
blank_cornered h b p e =
    let a = and_two (eqb b.y1 0) _ (and_two (eqb b.x1 0) _ (and_two (eqb b.kind 0) _ e)) in
    record { x2 = omega (arith, eqb-true b.x2 0 (and_one _ _ a)); y2 = omega (arith, p, eqb-true b.y2 0 (and_one (eqb b.y2 0) _ (and_two (eqb b.x2 0) _ a))) }

cornered : (h : ℕ) (s : BarSlot) (on : Bool) → s.on ≡ on → 0 < h → sound_bar h s ≡ true → canonical_bar s ≡ true → Cornered h s.bar
unfolding sound_bar canonical_bar
cornered h s true o p e f = set_up_cornered h s.bar (rw o at e)
cornered h s false o p e f = blank_cornered h s.bar p (rw o at f)

pub bars_inside : (w : World) → Kept w → (i x y : ℕ) → rectangle_of (bar_at (panel w) i).bar x y ≡ true → On (length w.framebuffer) x y
unfolding sound_bar canonical_bar every
bars_inside w k i x y e =
    let b = (parts k.good).panel_good.bars in
    let n = height w in
    let s = every_at (sound_bar n) (panel w).bars i no_bar refl b.sound in
    let c = every_at canonical_bar (panel w).bars i no_bar refl b.canonical in
    let q = cornered n (bar_at (panel w) i) (bar_at (panel w) i).on refl (height_some n (height_known (parts k.good))) s c in
    rw k.framebuffer (rectangle_fits n _ _ _ _ x y q.x2 q.y2 e)

-- ---- along a list of calls

append_comes : (l m : List Input) → ComesAll l → ComesAll m → ComesAll (l ++ m)
append_comes [] m h k = k
append_comes (i ∷ l) m h k = (h.0, append_comes l m h.1 k)

pub consumed_comes : (b : Board) (cs : List Call) → BytesInAll cs → ComesAll (consumed_all b cs)
unfolding consumed_all
consumed_comes b [] h = tt
consumed_comes b (feeds p room ∷ cs) h =
    append_comes (take (feed_of b.memory p room).consumed p) _ (take_comes (feed_of b.memory p room).consumed p h.0) (consumed_comes (after_call b (feeds p room)) cs h.1)
consumed_comes b (arrives x ∷ cs) h = consumed_comes (after_call b (arrives x)) cs h.1
consumed_comes b (takes ∷ cs) h = consumed_comes (after_call b takes) cs h.1

pub run_along : (w : World) (l : List Input) → along step w l ≡ run w l
unfolding along run
run_along w [] = refl
run_along w (i ∷ l) = run_along (step w i) l
