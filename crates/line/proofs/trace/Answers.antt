use borrow.Author.Rules.{rules}
use Rattle.line.proofs.Tracing.{tracing_start, tracing_walker, tracing_slope, tracing_more, tracing_end}
use Rattle.line.proofs.trace.Goals as goal

pub loop-init : goal.loop-init
loop-init c = tracing_start (search rules) (λ i. (c.type_inv.framebuffer i).fits) c.start-walker.ensures

pub plot-requires : goal.plot-requires
plot-requires c = tracing_walker c.loop.invariant

pub step-walker-requires : goal.step-walker-requires
step-walker-requires c = (tracing_walker c.loop.invariant, tracing_slope c.loop.invariant c.between-slope.ensures)

pub loop-preserved : goal.loop-preserved
loop-preserved c = tracing_more c.loop.invariant (search rules) c.plot.ensures c.between-slope.ensures c.step-walker.ensures

pub plot-requires-2 : goal.plot-requires-2
plot-requires-2 c = tracing_walker c.loop.invariant

pub returns : goal.returns
returns c = tracing_end c.loop.invariant (search rules) c.plot-2.ensures
