use Rattle.std.proofs.Common.{arith}
use Rattle.std.proofs.lemmas.Bool.Decides.{nat_tests}
use Rattle.fonts.specs.Bitmaps.{is_bitmap}
use Rattle.fonts.proofs.is_bitmap.Goals.{then-w-ne0, else-w-ne0}
use Rattle.fonts.proofs.is_bitmap.Goals as goal

pub returns-then-h-ne0 : goal.returns-then-h-ne0
unfolding is_bitmap
returns-then-h-ne0 c = elim c.if-w-ne0.branch [ then-w-ne0 w ↦ grind (arith, nat_tests) | else-w-ne0 w ↦ grind (arith, nat_tests) ]

pub returns-else-h-ne0 : goal.returns-else-h-ne0
unfolding is_bitmap
returns-else-h-ne0 c = elim c.if-w-ne0.branch [ then-w-ne0 w ↦ grind (arith, nat_tests) | else-w-ne0 w ↦ grind (arith, nat_tests) ]
