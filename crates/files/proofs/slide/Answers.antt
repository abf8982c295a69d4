use borrow.Author.Rules.{rules}
use native.Mathlib.Omega.{arith}
use lib.ListN.{length-drop}
use Rattle.files.proofs.Moves.{pasting_start, pasting_more, pasting_end, unmoved}
use Rattle.files.proofs.slide.Goals as goal

pub loop-i-init : goal.loop-i-init
loop-i-init c = pasting_start _ _ _ _ (search rules) (simp length-drop (omega arith))

pub bounds-s-from : goal.bounds-s-from
bounds-s-from c = omega (arith, c.loop-i.invariant.len)

pub bounds-s-to : goal.bounds-s-to
bounds-s-to c = omega (arith, c.loop-i.invariant.len)

pub loop-i-preserved : goal.loop-i-preserved
loop-i-preserved c = pasting_more _ _ _ _ _ _ _ c.loop-i.invariant (search rules) (unmoved _ _ _ _ _ _ c.loop-i.invariant (search rules) (search rules))

pub shape_of-s : goal.shape_of-s
shape_of-s c = c.loop-i.invariant.len

pub returns : goal.returns
returns c = pasting_end _ _ _ _ _ _ c.loop-i.invariant (search rules)
