use Rattle.queue.proofs.Ways.{take_unsound, fine, takes_none, takes}
use Rattle.std.proofs.Common.{rules}
use Rattle.queue.proofs.take.Goals as goal

pub returns-then-not-sound : goal.returns-then-not-sound
returns-then-not-sound c = take_unsound _ _ c.sound.ensures _ (search rules)

pub returns-then-held-eq0 : goal.returns-then-held-eq0
returns-then-held-eq0 c = takes_none c.args.r.now (fine _ _ c.sound.ensures (search rules)) _ (search rules) (λ i. (c.slice_known-1.given i).fits)

pub returns : goal.returns
returns c = takes c.args.r.now (fine _ _ c.sound.ensures (search rules)) _ _ _ _ _ (search rules) c.low_water.ensures c.while_on-w.ensures c.advance-byte.ensures.0 c.advance-byte.ensures.1
