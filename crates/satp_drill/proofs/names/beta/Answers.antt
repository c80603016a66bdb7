use Rattle.satp_base.proofs.Exact.{same_text}
use Rattle.satp_drill.proofs.names.beta.Goals as goal
use Rattle.satp_drill_runs.specs.Reports.{beta}

pub returns : goal.returns
returns c = same_text c.name.result beta c.name.ensures
