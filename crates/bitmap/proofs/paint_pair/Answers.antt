use mathlib.Core.Path.{◌≡◌, ◌∙◌}
use Prim.Native.Nat.{◌/◌, ◌%◌}
use native.Mathlib.Omega.{arith}
use Rattle.bitmap.specs.Pairs.{swapped}
use Rattle.bitmap.proofs.Pairs.{pair_is, swap_is, pair_stored}
use borrow.Author.Rules.{rules}
use Rattle.bitmap.proofs.paint_pair.Goals as goal

pub returns : goal.returns
returns c = let a = c.args in
    let high : c.blended.result / 256 % 256 ≡ c.blended.result / 256 = omega arith in
    rw (c.to_le_bytes.ensures, high)
    (pair_stored a.framebuffer.now a.at (λ i. (c.slice_known-1.given i).fits) (search rules) a.mask (swapped a.columns) c.blended.result
    (rw (pair_is a.framebuffer.now a.at c.from_le_bytes-old.result (c.from_le_bytes-old.ensures ∙ omega arith), swap_is a.columns c.swap_bytes.result (search rules) c.swap_bytes.ensures) at c.blended.ensures))
