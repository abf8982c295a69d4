use Rattle.std.proofs.Common.{arith}
use Rattle.directory.proofs.Walks.{going, stopping, counting_more, counting_end}
use Rattle.directory.proofs.tally.Goals as goal

pub loop-r-preserved : goal.loop-r-preserved
loop-r-preserved c =
    let i = c.loop-r.invariant in
    let g = going c.args.store.now c.loop-r.r-iterator c.next.new.self c.in-Some.r i.same c.in-Some.ensures.steps in
    record { same = g.same; stands = g.next; counting = counting_more _ _ _ _ _ (rw (← i.stands) at i.counting) g }

pub returns : goal.returns
returns c =
    let w = c.loop-r.invariant.counting in
    let h = stopping c.args.store.now c.loop-r.r-iterator c.next.new.self c.loop-r.invariant.same c.in-None.ensures.steps in
    (counting_end _ _ _ w (rw c.loop-r.invariant.stands at h), w.within, omega (arith, w.small, w.within))
