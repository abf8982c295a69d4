use Rattle.directory.proofs.Walks.{going, stopping, finding_none, finding_here, finding_more}
use Rattle.directory.proofs.find.Goals as goal

pub returns-then-is_file : goal.returns-then-is_file
returns-then-is_file c =
    let i = c.loop-r.invariant in
    let g = going c.args.store.now c.loop-r.r-iterator c.next.new.self c.in-Some.r i.same c.in-Some.ensures.steps in
    finding_here _ _ _ _ _ _ _ _ i.finding g c.is_file.ensures c.if-is_file.true

pub loop-r-preserved : goal.loop-r-preserved
loop-r-preserved c =
    let i = c.loop-r.invariant in
    let g = going c.args.store.now c.loop-r.r-iterator c.next.new.self c.in-Some.r i.same c.in-Some.ensures.steps in
    record { same = g.same; finding = finding_more _ _ _ _ _ _ _ _ i.finding g c.is_file.ensures c.if-is_file.false }

pub returns : goal.returns
returns c = finding_none _ _ _ _ _ c.loop-r.invariant.finding (stopping c.args.store.now c.loop-r.r-iterator c.next.new.self c.loop-r.invariant.same c.in-None.ensures.steps)
