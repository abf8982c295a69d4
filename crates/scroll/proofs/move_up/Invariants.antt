use Rattle.scroll.proofs.Bytes.{Moving}
use Rattle.scroll.proofs.move_up.Given as goal

abbrev pub invariant-loop-i : goal.invariant-loop-i
invariant-loop-i l = Moving l.by l.n l.i l.initial.framebuffer l.framebuffer
