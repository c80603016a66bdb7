use Rattle.satp_http.proofs.WrittenLemmas.{written_request_is_read}
use Rattle.satp_http.proofs.laws.law_written_request_is_read.Goals as goal

pub returns : goal.returns
returns c = written_request_is_read
