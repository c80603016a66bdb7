use Rattle.satp_base.proofs.Exact.{same_text}
use Rattle.satp_drill.proofs.names.alpha.Goals as goal
use Rattle.satp_drill_runs.specs.Reports.{alpha}

pub returns : goal.returns
returns c = same_text c.name.result alpha c.name.ensures
