use Rattle.satp_schedule.proofs.VerbLemmas.{no_transfer}
use Rattle.satp_schedule.proofs.parse.parse_start.Goals as goal

pub returns-in_err-transfer : goal.returns-in_err-transfer
returns-in_err-transfer c = rw c.from_residual-in_err-transfer.ensures (no_transfer _ _ _ _ c.in_ok-side.ensures.1 c.in_err-transfer.ensures)
