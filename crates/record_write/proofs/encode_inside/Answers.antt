use Rattle.record_write.proofs.Parts.{port_written}
use Rattle.record_write.proofs.encode_inside.Goals as goal

pub returns : goal.returns
returns c = (port_written _ _ _ _ _ _ _ c.encode_phase.ensures.1 c.encode_phase.ensures.0 c.text_bytes.ensures c.put_inside.ensures c.other_bytes.ensures c.put_inside-2.ensures, c.encode_phase.ensures.1)
