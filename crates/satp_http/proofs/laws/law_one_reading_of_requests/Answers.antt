use Rattle.satp_http.proofs.ReadingLemmas.{one_reading_of_requests}
use Rattle.satp_http.proofs.laws.law_one_reading_of_requests.Goals as goal

pub returns : goal.returns
returns c = one_reading_of_requests
