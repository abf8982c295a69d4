use Rattle.queue.proofs.Ways.{arrive_unsound, fine, arrives, drops}
use Rattle.std.proofs.Common.{rules}
use Rattle.queue.proofs.arrive.Goals as goal

pub returns-then-not-sound : goal.returns-then-not-sound
returns-then-not-sound c = arrive_unsound _ _ c.sound.ensures _ _ (search rules)

pub returns-then-from-lt-SIZE : goal.returns-then-from-lt-SIZE
returns-then-from-lt-SIZE c = arrives c.args.r.now (fine _ _ c.sound.ensures (search rules)) _ _ _ _ _ (search rules) c.high_water.ensures c.while_on-w.ensures c.store.ensures

pub returns : goal.returns
returns c = drops c.args.r.now (fine _ _ c.sound.ensures (search rules)) _ _ _ (search rules) c.count_lost.ensures
