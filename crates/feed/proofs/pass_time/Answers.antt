use Rattle.std.proofs.Common.{refl}
use Rattle.std.proofs.lemmas.Result.{err_from_is_err_and}
use Rattle.feed.proofs.Ways.{some_number}
use Rattle.feed.proofs.Ways.{read_both, time_not_passed, time_5, time_0}
use borrow.Author.Rules.{rules}
use Rattle.feed.proofs.pass_time.Goals as goal

pub check-requires : goal.check-requires
check-requires c = read_both _ _ _ c.config_in-config.ensures c.decode_port-port.ensures

pub returns-in_err-check : goal.returns-in_err-check
returns-in_err-check c =
    let p = err_from_is_err_and c.from_residual.result c.from_residual.ensures.1 in
    rw (p.1, p.2) (time_not_passed _ _ _ _ c.in_err-check.ensures (some_number _))

pub returns-then-replies-lt-REPLY_ROOM : goal.returns-then-replies-lt-REPLY_ROOM
returns-then-replies-lt-REPLY_ROOM c = time_5 _ _ _ _ c.in_ok-check.ensures refl (search rules)

pub returns : goal.returns
returns c = time_0 _ _ _ _ _ _ _ _ _ _ _ _ (λ i. (c.type_inv.framebuffer i).fits) (λ i. (c.type_inv.store i).fits) (λ i. (c.slice_known-1.given i).fits) c.in_ok-check.ensures refl c.config_in-config.ensures c.decode_port-port.ensures c.if-replies-lt-REPLY_ROOM.false c.pass-o.ensures c.encode_port.ensures.0 c.encode_port.ensures.1 c.send.ensures.0 c.send.ensures.1
