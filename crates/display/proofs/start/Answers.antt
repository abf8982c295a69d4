use Rattle.std.proofs.Common.{◌≡◌, Some, None, Err, arith, rules}
use Rattle.canvas.proofs.Heights.{height_fits}
use Rattle.directory.proofs.Walks.{survey_breaks, survey_says, survey_totals}
use Rattle.state.proofs.Editions.{edition_fits}
use Rattle.state.specs.State.{config}
use Rattle.feed.specs.declared.Fault.TheVariants.{BadDirectory}
use Rattle.display.proofs.Ways.{start_used, start_4, start_0}
use Rattle.display.proofs.start.Goals as goal

pub overflow_cast-rows : goal.overflow_cast-rows
overflow_cast-rows c = omega (arith, height_fits c.args.height (search rules))

pub returns-in_err-totals : goal.returns-in_err-totals
returns-in_err-totals c =
    let gone : c.survey.result ≡ None = grind arith in
    let fault : c.from_residual.result ≡ Err BadDirectory = grind arith in
    rw fault
    (start_4 (config c.args.height c.args.edition) _ _ _ _ (search rules) (search rules) (search rules) (search rules) (search rules) (search rules)
    (survey_breaks _ _ c.survey.ensures gone))

pub overflow_cast-config : goal.overflow_cast-config
overflow_cast-config c = omega (arith, edition_fits c.args.edition (search rules))

pub overflow_cast-totals : goal.overflow_cast-totals
overflow_cast-totals c =
    let got : c.survey.result ≡ Some c.in_ok-totals.totals = grind arith in
    omega (arith, start_used c.args.store.now _ (search rules) (survey_says _ _ _ c.survey.ensures got) (survey_totals _ _ _ c.survey.ensures got))

pub returns : goal.returns
returns c =
    let got : c.survey.result ≡ Some c.in_ok-totals.totals = grind arith in
    start_0 (config c.args.height c.args.edition) c.args.framebuffer.now c.args.store.now c.args.state.now c.args.queue.now (search rules) (search rules) (search rules) (search rules) (search rules) (search rules) _ _ _ _ _
    (survey_says _ _ _ c.survey.ensures got) (survey_totals _ _ _ c.survey.ensures got) c.clear.ensures c.start_state-s.ensures c.encode.ensures c.empty_queue.ensures
