use Rattle.std.proofs.Common.{refl}
use Rattle.std.proofs.lemmas.Result.{err_from_is_err_and}
use Rattle.feed.proofs.Ways.{some_number}
use Rattle.feed.proofs.Ways.{read_both, not_passed, ready, feed_end}
use Rattle.feed.proofs.feed_piece.Goals as goal

pub check-requires : goal.check-requires
check-requires c = read_both _ _ _ c.config_in-config.ensures c.decode_port-port.ensures

pub returns-in_err-check : goal.returns-in_err-check
returns-in_err-check c =
    let p = err_from_is_err_and c.from_residual.result c.from_residual.ensures.1 in
    rw (p.1, p.2) (not_passed _ _ _ _ c.in_err-check.ensures (some_number _))

pub run_on-ran-requires : goal.run_on-ran-requires
run_on-ran-requires c = ready _ _ _ _ _ _ (λ i. (c.slice_known-1.given i).fits) (λ i. (c.slice_known-2-1.given i).fits) (λ i. (c.slice_known-3-1.given i).fits) c.in_ok-check.ensures refl c.config_in-config.ensures c.decode_port-port.ensures

pub returns : goal.returns
returns c = feed_end _ _ _ _ _ _ _ _ _ _ _ _ _ _ _ _ c.in_ok-check.ensures refl c.config_in-config.ensures c.decode_port-port.ensures c.run_on-ran.ensures
