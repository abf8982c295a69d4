use mathlib.Core.Path.{refl}
use Rattle.feed.proofs.Ways.{lent_ready, ran_none, ran_on}
use borrow.Author.Rules.{rules}
use Rattle.feed.proofs.run_on.Goals as goal

pub run-ran-requires : goal.run-ran-requires
run-ran-requires c = lent_ready _ _ c.args.«record».now _ _ c.requires

pub returns-then-ran-eq0 : goal.returns-then-ran-eq0
returns-then-ran-eq0 c = ran_none _ _ _ _ _ _ _ _ _ _ _ _ _ _ _ _ c.requires.2 c.requires.1 c.requires.4 (search rules) c.run-ran.ensures.0 c.run-ran.ensures.1 refl

pub returns : goal.returns
returns c = ran_on _ _ _ _ _ _ _ _ _ _ _ _ _ _ _ _ c.requires.2 c.requires.3 c.run-ran.ensures.0 c.run-ran.ensures.1 c.encode_port.ensures.1 c.encode_port.ensures.0
