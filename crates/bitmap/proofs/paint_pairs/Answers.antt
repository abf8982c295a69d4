use mathlib.Core.Path.{refl, ◌∙◌}
use native.Mathlib.Omega.{arith}
use borrow.Author.Rules.{rules}
use Rattle.bitmap.proofs.Strips.{pairs_start, pairs_step}
use Rattle.bitmap.proofs.paint_pairs.Goals as goal

pub loop-at-init : goal.loop-at-init
loop-at-init c = pairs_start (λ i. (c.type_inv.rows i).fits) c.from-at.ensures

pub loop-at-preserved : goal.loop-at-preserved
loop-at-preserved c =
    rw c.from-k.ensures
    (pairs_step c.loop-at.invariant (search rules) (search rules) (search rules) (search rules) (search rules) (search rules) (λ i. (c.type_inv.bits i).fits)
    refl c.pair_mask-mask.ensures (c.from_be_bytes.ensures ∙ omega arith) c.paint_pair.ensures)
