use Rattle.std.proofs.Common.{arith}
use Rattle.std.proofs.lemmas.Grind.{common_steps}
use Rattle.record_check.proofs.Deciding.{panel_in}
use Rattle.record_check.proofs.checking.Record.is_panel.Goals as goal

pub returns-then-is_serial : goal.returns-then-is_serial
returns-then-is_serial c = let e = panel_in c.args.height c.args.self.bytes.now c.args.self.are_bytes in grind (arith, common_steps)
