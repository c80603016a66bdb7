use Rattle.satp_base.proofs.RecordLaws.{after-gives, gives-after}
use Rattle.satp_base.proofs.role_laws.law_answers.Goals as goal

pub returns : goal.returns
returns c = λ op a r. (after-gives op a r, λ h. gives-after op a r h.0 h.1)
