use Rattle.record_write.proofs.Parts.{phase_written}
use Rattle.record_write.proofs.encode_phase.Goals as goal

pub returns : goal.returns
returns c = (phase_written _ _ _ _ _ _ _ _ _ c.encode_arguments.ensures.1 c.gathering_bytes.ensures c.put_inside.ensures c.encode_arguments.ensures.0 c.data_bytes.ensures c.put_inside-2.ensures c.upload_bytes.ensures c.put_inside-3.ensures, c.encode_arguments.ensures.1)
