use Rattle.satp_http.proofs.RunLemmas.{request_fault_in_each_cutting}
use Rattle.satp_http.proofs.laws.law_request_fault_in_each_cutting.Goals as goal

pub returns : goal.returns
returns c = request_fault_in_each_cutting
