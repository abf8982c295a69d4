use Rattle.std.proofs.Common.{sym, ◌∙◌}
use Rattle.record_check.proofs.SetUp.{graphs_clear}
use Rattle.record_check.proofs.checking.Record.are_graphs.Goals as goal

pub returns-then-is_clear : goal.returns-then-is_clear
returns-then-is_clear c = c.if-is_clear.true ∙ sym (graphs_clear c.args.height c.args.self.bytes.now (sym c.is_clear.ensures ∙ c.if-is_clear.true))
