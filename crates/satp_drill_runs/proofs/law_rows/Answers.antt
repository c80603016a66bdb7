use Rattle.satp_drill_runs.proofs.FailedStart.{failed-starts}
use Rattle.satp_drill_runs.proofs.RowsCheck.{commands-drop, fates-are, lost-is-sent, none-is-delivered}
use Rattle.satp_drill_runs.proofs.law_rows.Goals as goal

pub returns : goal.returns
returns c = (fates-are, lost-is-sent, commands-drop, none-is-delivered, failed-starts)
