use mathlib.Core.Path.{◌≡◌}
use Prim.Native.Nat.{◌-◌}
use lib.ListN.{length}
use Rattle.state.specs.State.{state}
use Rattle.record.specs.Reading.{panel_of}
use Rattle.rules.specs.World.{world}
use Rattle.rules.specs.Calls.{bytes}
use Rattle.feed.specs.Running.{Written}
use Rattle.feed.proofs.Feeding.{Feeding}
use Rattle.feed.proofs.run.Given as goal

abbrev pub invariant-loop-i : goal.invariant-loop-i
invariant-loop-i l = (length l.framebuffer ≡ length l.initial.framebuffer) × (length l.store ≡ length l.initial.store) × (length l.panel ≡ length l.initial.panel) × (length l.replies ≡ length l.initial.replies)
    × Feeding (world l.initial.framebuffer l.initial.store (state l.config l.initial.p (panel_of l.initial.panel))) (bytes l.piece) l.initial.replies (world l.framebuffer l.store (state l.config l.p (panel_of l.panel))) l.replies l.at l.i × Written l.panel

abbrev pub decreases-loop-i : goal.decreases-loop-i
decreases-loop-i l = length l.piece - l.i
