use Rattle.std.proofs.Common.{◌≡◌, Some, None, Err, ap, ◌∙◌, arith, rules}
use Rattle.std.proofs.lemmas.Result.{err_from_is_err_and}
use Rattle.canvas.specs.Sizes.{length_for}
use Rattle.calls.specs.Memory.{upload_refused}
use Rattle.directory.proofs.Walks.{survey_breaks, survey_says, survey_totals}
use Rattle.state.specs.declared.Config.{Config}
use Rattle.feed.specs.declared.Fault.TheVariants.{BadDirectory}
use Rattle.feed.proofs.Ways.{check_4, check_4_upload, check_3_sum, check_0}
use Rattle.feed.proofs.check.Goals as goal

pub returns-in_err-totals : goal.returns-in_err-totals
returns-in_err-totals c =
    let p = err_from_is_err_and c.from_residual.result c.from_residual.ensures.1 in
    let gone : c.survey.result ≡ None = grind arith in
    let size = c.if-framebuffer-length_for.false ∙ c.length_for.ensures ∙ ap (λ (x : Config). length_for x.height) c.requires.0 in
    let fault : c.from_residual.result ≡ Err BadDirectory = grind arith in
    rw fault (check_4 _ _ _ (search rules) size (search rules) (search rules) (survey_breaks _ _ c.survey.ensures gone))

pub is_blocked-requires : goal.is_blocked-requires
is_blocked-requires c =
    let got : c.survey.result ≡ Some c.in_ok-totals.totals = grind arith in
    survey_totals _ _ _ c.survey.ensures got

pub returns-then-is_blocked : goal.returns-then-is_blocked
returns-then-is_blocked c =
    let got : c.survey.result ≡ Some c.in_ok-totals.totals = grind arith in
    let size = c.if-framebuffer-length_for.false ∙ c.length_for.ensures ∙ ap (λ (x : Config). length_for x.height) c.requires.0 in
    let blocked = c.is_blocked.ensures ∙ ap (λ (x : Config). upload_refused x.edition c.args.store.now c.args.phase) c.requires.0 in
    check_4_upload _ _ _ (search rules) size (search rules) (search rules) (survey_says _ _ _ c.survey.ensures got) _ _ c.requires.1 blocked (search rules)

pub returns-then-from-totals : goal.returns-then-from-totals
returns-then-from-totals c =
    let got : c.survey.result ≡ Some c.in_ok-totals.totals = grind arith in
    let size = c.if-framebuffer-length_for.false ∙ c.length_for.ensures ∙ ap (λ (x : Config). length_for x.height) c.requires.0 in
    let blocked = c.is_blocked.ensures ∙ ap (λ (x : Config). upload_refused x.edition c.args.store.now c.args.phase) c.requires.0 in
    check_3_sum _ _ _ (search rules) size (search rules) (search rules) (survey_says _ _ _ c.survey.ensures got) _ _ c.requires.1 blocked c.if-is_blocked.false _ (survey_totals _ _ _ c.survey.ensures got) c.used_in.result c.used_in.ensures (search rules)

pub returns : goal.returns
returns c =
    let got : c.survey.result ≡ Some c.in_ok-totals.totals = grind arith in
    let size = c.if-framebuffer-length_for.false ∙ c.length_for.ensures ∙ ap (λ (x : Config). length_for x.height) c.requires.0 in
    let blocked = c.is_blocked.ensures ∙ ap (λ (x : Config). upload_refused x.edition c.args.store.now c.args.phase) c.requires.0 in
    check_0 _ _ _ (search rules) size (search rules) (search rules) (survey_says _ _ _ c.survey.ensures got) _ _ c.requires.1 blocked c.if-is_blocked.false _ (survey_totals _ _ _ c.survey.ensures got) c.used_in.result c.used_in.ensures (search rules)
