use Rattle.std.proofs.Common.{◌+◌, ◌*◌, drop, refl, rules, tests}
use Rattle.std.proofs.lemmas.Iterator.{YieldsList-from_range}
use Rattle.std.proofs.lemmas.Iterator.Search.{all_from_yields_List}
use Rattle.record_check.specs.Parts.{slot_holds}
use Rattle.record_check.proofs.Standing.{every_numbered}
use Rattle.record_check.proofs.checking.Record.are_bars.Goals as goal

pub returns : goal.returns
returns c =
    let r = c.args.self.bytes.now in
    let one = slot_holds c.args.height in
    every_numbered one 7 49 r 16 _ (all_from_yields_List (λ i. one (drop (49 + 7 * i) r)) _ _ c.all.result c.all.ensures.ran (YieldsList-from_range 0 16 16 refl refl) (λ x b q k. search (rules, tests)))
