use native.Mathlib.Omega.{arith}
use Rattle.bitmap.proofs.Inline.{across_in, place_is}
use mathlib.Core.Path.{refl}
use borrow.Author.Rules.{rules}
use Rattle.bitmap.proofs.inline_place.Goals as goal

pub overflow_mul-result : goal.overflow_mul-result
overflow_mul-result c = let a = c.args in omega (arith, across_in a.x1 a.x2 a.k)

pub overflow_add-result : goal.overflow_add-result
overflow_add-result c = let a = c.args in omega (arith, across_in a.x1 a.x2 a.k)

pub returns : goal.returns
returns c = rw (c.from-4.ensures, c.from-3.ensures, c.from-2.ensures, c.from.ensures) (place_is c.args.x1 c.args.y1 c.args.x2 c.args.k _ (search rules) refl)
