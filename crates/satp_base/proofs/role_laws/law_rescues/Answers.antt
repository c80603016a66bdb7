use Rattle.satp_base.proofs.RecordLaws.{allowed-rescue, rescue-allowed}
use Rattle.satp_base.proofs.role_laws.law_rescues.Goals as goal

pub returns : goal.returns
returns c = λ role v. (rescue-allowed role v, allowed-rescue role v)
