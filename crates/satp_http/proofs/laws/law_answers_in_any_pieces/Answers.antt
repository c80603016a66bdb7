use Rattle.satp_http.proofs.RunLemmas.{answers_in_any_pieces}
use Rattle.satp_http.proofs.laws.law_answers_in_any_pieces.Goals as goal

pub returns : goal.returns
returns c = answers_in_any_pieces
