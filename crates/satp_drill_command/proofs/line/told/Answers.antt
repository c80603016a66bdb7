use Rattle.std.proofs.lemmas.Result.{IfOk-weaker}
use Rattle.satp_drill_command.proofs.line.told.Goals as goal

pub returns : goal.returns
returns c = IfOk-weaker c.report_line.result _ _ (λ line is. (c.in_ok-drilled.drilled.report, (_, _, _, _, c.in_ok-drilled.ensures), is)) c.report_line.ensures
