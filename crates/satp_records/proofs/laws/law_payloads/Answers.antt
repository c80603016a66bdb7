use Rattle.satp_records.proofs.Payloads.{payloads_fit, one_record}
use Rattle.satp_records.proofs.laws.law_payloads.Goals as goal

pub returns-clause-fit : goal.returns-clause-fit
returns-clause-fit c = payloads_fit

pub returns-clause-one : goal.returns-clause-one
returns-clause-one c = one_record
