use Rattle.satp_http.proofs.RunLemmas.{requests_in_any_pieces}
use Rattle.satp_http.proofs.laws.law_requests_in_any_pieces.Goals as goal

pub returns : goal.returns
returns c = requests_in_any_pieces
