use Rattle.satp_base.proofs.Exact.{same_text}
use Rattle.satp_drill.proofs.names.gold.Goals as goal
use Rattle.satp_drill_runs.specs.Reports.{gold}

pub returns : goal.returns
returns c = same_text c.name.result gold c.name.ensures
