use Rattle.satp_http.proofs.RunLemmas.{answer_fault_in_each_cutting}
use Rattle.satp_http.proofs.laws.law_answer_fault_in_each_cutting.Goals as goal

pub returns : goal.returns
returns c = answer_fault_in_each_cutting
