use mathlib.Core.Path.{refl}
use Rattle.record_write.proofs.Parts.{port_short}
use Rattle.record_write.proofs.encode_port.Goals as goal

pub returns : goal.returns
returns c = (port_short _ _ _ _ _ c.encode_inside-2.ensures.1 refl c.encode_inside-2.ensures.0 c.put.ensures, c.encode_inside-2.ensures.1)
