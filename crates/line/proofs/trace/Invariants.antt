use Rattle.line.proofs.Tracing.{Tracing}
use Rattle.line.proofs.trace.Given as goal

abbrev pub invariant-loop : goal.invariant-loop
invariant-loop l = Tracing l.steep l.c.black l.a1 l.a2 l.b1 l.b2 l.initial.framebuffer l.framebuffer l.walker l.counter
