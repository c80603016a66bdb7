use Rattle.satp_point_laws.proofs.DueLaw.{due-may-come}
use Rattle.satp_point_laws.proofs.law_due_records.Goals as goal

pub returns : goal.returns
returns c = due-may-come
