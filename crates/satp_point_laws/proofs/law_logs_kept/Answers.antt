use Rattle.satp_point_laws.proofs.CallLaw.{calls-keep-logs}
use Rattle.satp_point_laws.proofs.law_logs_kept.Goals as goal

pub returns : goal.returns
returns c = calls-keep-logs
