use Rattle.record_write.proofs.Parts.{state_written}
use Rattle.record_write.proofs.encode.Goals as goal

pub returns : goal.returns
returns c = state_written _ _ _ _ _ (record { args = c.encode_port.ensures.1; bars = c.encode_panel.ensures.1; strips = c.encode_panel.ensures.2 }) c.encode_port.ensures.0 c.encode_config.ensures c.encode_panel.ensures.0
