use Rattle.satp_http.proofs.ReadingLemmas.{one_reading_of_answers}
use Rattle.satp_http.proofs.laws.law_one_reading_of_answers.Goals as goal

pub returns : goal.returns
returns c = one_reading_of_answers
