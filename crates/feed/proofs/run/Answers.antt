use mathlib.Core.List.{[]}
use mathlib.Core.Path.{◌∙◌, refl}
use native.Mathlib.Omega.{arith}
use borrow.Author.Rules.{rules}
use Rattle.rules.specs.Calls.{bytes}
use Rattle.rules.proofs.GoodByte.{bytes_come}
use Rattle.outcome.specs.Contract.{held}
use Rattle.feed.proofs.Feeding.{feeding_start, feeding_more, piece_stop, piece_end, room_known, stepped, one_kept, command_one, command_fits, byte_there, in_piece}
use Rattle.feed.proofs.run.Goals as goal

pub loop-i-init : goal.loop-i-init
loop-i-init c = (refl, refl, refl, refl, feeding_start _ _ _ c.requires.0, c.requires.1)

pub overflow_sub-replies : goal.overflow_sub-replies
overflow_sub-replies c = (room_known c.loop-i.invariant.4).1

pub returns-then-replies-at-lt-REPLY_ROOM : goal.returns-then-replies-at-lt-REPLY_ROOM
returns-then-replies-at-lt-REPLY_ROOM c = (piece_stop c.args.piece.now c.loop-i.invariant.4 (search rules) (search rules), c.loop-i.invariant.5)

pub overflow_add-i : goal.overflow_add-i
overflow_add-i c = omega (arith, command_fits c.args.piece.now _ _ c.args.config.edition c.loop-i.p.line.phase c.loop-i-test.true c.in-Some.ensures.0 c.in-Some.ensures.1, c.well_formed.1.1.1.1.1.0.0)

pub send-at-requires : goal.send-at-requires
send-at-requires c = omega (arith, (room_known c.loop-i.invariant.4).1, c.if-replies-at-lt-REPLY_ROOM.false)

pub loop-i-smaller-in-Some : goal.loop-i-smaller-in-Some
loop-i-smaller-in-Some c = omega (arith, command_fits c.args.piece.now _ _ c.args.config.edition c.loop-i.p.line.phase c.loop-i-test.true c.in-Some.ensures.0 c.in-Some.ensures.1, c.in-Some.ensures.0, c.in-Some.ensures.1)

pub loop-i-preserved-in-Some : goal.loop-i-preserved-in-Some
loop-i-preserved-in-Some c = let o = command_one _ c.args.piece.now _ _ c.loop-i.invariant.4.kept c.in-Some.ensures.0 c.in-Some.ensures.1 in let s = stepped (held _ _ _ _ _) (held _ _ _ _ _) _ _ (one_kept _ (bytes c.args.piece.now) c.loop-i.i c.in-Some.n c.loop-i.invariant.4.kept (bytes_come c.args.piece.now (λ j. (c.type_inv.piece j).fits)) o) c.loop-i.invariant.5 (c.obey_whole-o.ensures.came c.args.config [] [] []) in (c.framebuffer-1.given ∙ c.loop-i.invariant.0, c.store-1.given ∙ c.loop-i.invariant.1, c.panel-1.given ∙ c.loop-i.invariant.2, c.replies-1.given ∙ c.loop-i.invariant.3, feeding_more _ _ _ _ _ c.loop-i.invariant.4 (bytes_come c.args.piece.now (λ j. (c.type_inv.piece j).fits)) o (in_piece c.args.piece.now _ (command_fits c.args.piece.now _ _ c.args.config.edition c.loop-i.p.line.phase c.loop-i-test.true c.in-Some.ensures.0 c.in-Some.ensures.1)) c.if-replies-at-lt-REPLY_ROOM.false s.next s.sends c.send-at.ensures.0 c.send-at.ensures.1, s.written)

pub overflow_add-i-in-loop-i : goal.overflow_add-i-in-loop-i
overflow_add-i-in-loop-i c = omega (arith, c.loop-i-test.true, c.well_formed.1.1.1.1.1.0.0)

pub send-at-requires-in-loop-i : goal.send-at-requires-in-loop-i
send-at-requires-in-loop-i c = omega (arith, (room_known c.loop-i.invariant.4).1, c.if-replies-at-lt-REPLY_ROOM.false)

pub loop-i-smaller : goal.loop-i-smaller
loop-i-smaller c = omega (arith, c.loop-i-test.true)

pub loop-i-preserved : goal.loop-i-preserved
loop-i-preserved c = let o = byte_there _ c.args.piece.now _ _ c.loop-i-test.true refl in let s = stepped (held _ _ _ _ _) (held _ _ _ _ _) _ _ (one_kept _ (bytes c.args.piece.now) c.loop-i.i 1 c.loop-i.invariant.4.kept (bytes_come c.args.piece.now (λ j. (c.shared_slice_known-1.given j).fits)) o) c.loop-i.invariant.5 (c.step-o.ensures.came c.args.config [] [] []) in (c.framebuffer-in-loop-i-1.given ∙ c.loop-i.invariant.0, c.store-in-loop-i-1.given ∙ c.loop-i.invariant.1, c.panel-in-loop-i-1.given ∙ c.loop-i.invariant.2, c.replies-in-loop-i-1.given ∙ c.loop-i.invariant.3, feeding_more _ _ _ _ _ c.loop-i.invariant.4 (bytes_come c.args.piece.now (λ j. (c.shared_slice_known-1.given j).fits)) o (in_piece c.args.piece.now _ (omega (arith, c.loop-i-test.true))) c.if-replies-at-lt-REPLY_ROOM.false s.next s.sends c.send-at-in-loop-i.ensures.0 c.send-at-in-loop-i.ensures.1, s.written)

pub returns : goal.returns
returns c = (piece_end c.args.piece.now c.loop-i.invariant.4 (search rules), c.loop-i.invariant.5)
