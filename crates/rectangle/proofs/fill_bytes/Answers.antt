use borrow.Author.Rules.{rules}
use Rattle.rectangle.proofs.Runs.{run_filled}
use Rattle.rectangle.proofs.fill_bytes.Goals as goal

pub returns : goal.returns
returns c =
    run_filled _ _ _ _ _ _ _ (search rules) (search rules) (search rules) c.solid_byte.ensures (c.fill.ensures.after (λ y e. search rules)) (λ i. (c.slice_known-1.given i).fits)
