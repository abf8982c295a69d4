use Rattle.std.proofs.Common.{◌∙◌, rules}
use Rattle.directory.proofs.Walks.{going, stopping, short, surveyed_broken, surveyed, counting_end, survey_start, survey_end, survey_unfair, survey_number, survey_twice, survey_more}
use Rattle.directory.proofs.survey.Goals as goal

pub returns-then-store-lt-DIRECTORY : goal.returns-then-store-lt-DIRECTORY
returns-then-store-lt-DIRECTORY c = surveyed_broken _ (short _ (search rules))

pub loop-r-init : goal.loop-r-init
loop-r-init c = record { same = search rules; stands = search rules; surveying = survey_start _ }

pub returns-then-not-is_fair : goal.returns-then-not-is_fair
returns-then-not-is_fair c =
    let i = c.loop-r.invariant in
    let g = going c.args.store.now c.loop-r.r-iterator c.next.new.self c.in-Some.r i.same c.in-Some.ensures.steps in
    surveyed_broken _ (survey_unfair _ _ _ _ _ _ (rw (← i.stands) at i.surveying) g _ c.is_fair.ensures (search rules))

pub slot-i-requires : goal.slot-i-requires
slot-i-requires c =
    let i = c.loop-r.invariant in
    let g = going c.args.store.now c.loop-r.r-iterator c.next.new.self c.in-Some.r i.same c.in-Some.ensures.steps in
    survey_number _ _ _ _ _ _ (rw (← i.stands) at i.surveying) g _ c.is_fair.ensures (search rules)

pub returns-then-seen-i-eq1 : goal.returns-then-seen-i-eq1
returns-then-seen-i-eq1 c =
    let i = c.loop-r.invariant in
    let g = going c.args.store.now c.loop-r.r-iterator c.next.new.self c.in-Some.r i.same c.in-Some.ensures.steps in
    surveyed_broken _ (survey_twice _ _ _ _ _ _ (rw (← i.stands) at i.surveying) g _ c.is_fair.ensures (search rules) _ c.slot-i.ensures.0 (search rules))

pub loop-r-preserved : goal.loop-r-preserved
loop-r-preserved c =
    let i = c.loop-r.invariant in
    let g = going c.args.store.now c.loop-r.r-iterator c.next.new.self c.in-Some.r i.same c.in-Some.ensures.steps in
    record { same = g.same; stands = g.next; surveying = survey_more _ _ _ _ _ _ (rw (← i.stands) at i.surveying) g _ c.is_fair.ensures (search rules) _ c.slot-i.ensures.0 (search rules) }

pub returns : goal.returns
returns c =
    let i = c.loop-r.invariant in
    let w = i.surveying in
    let h = rw i.stands at (stopping c.args.store.now c.loop-r.r-iterator c.next.new.self i.same c.in-None.ensures.steps) in
    c.then_some.ensures ∙ surveyed _ _ _ (survey_end _ _ _ _ w h _ c.closes.ensures) (counting_end _ _ _ w.counting h)
