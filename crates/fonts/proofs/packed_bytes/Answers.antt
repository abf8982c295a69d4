use native.Mathlib.Omega.{arith}
use Rattle.fonts.proofs.Ways.{product, packed_is}
use Rattle.fonts.proofs.packed_bytes.Goals as goal

pub returns : goal.returns
returns c = (packed_is _ _ c.from.result c.from-2.result c.from.ensures c.from-2.ensures, omega (arith, product c.from.result c.from-2.result (omega arith) (omega arith)))
