use Rattle.record_write.proofs.Parts.{panel_written}
use Rattle.record_write.proofs.encode_panel.Goals as goal

pub returns : goal.returns
returns c = (panel_written _ _ _ _ _ _ c.encode_bars.ensures.1 c.encode_strips.ensures.1 c.encode_bars.ensures.0 c.encode_strips.ensures.0 c.last_bytes.ensures c.put.ensures, c.encode_bars.ensures.1, c.encode_strips.ensures.1)
