use Rattle.satp_canon.proofs.FirstNames.{finds_first, first_found}
use Rattle.satp_canon.proofs.laws.law_first_name.Goals as goal

pub returns : goal.returns
returns c = λ texts text. (finds_first texts text, first_found texts text)
