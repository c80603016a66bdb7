use Rattle.satp_canon.proofs.WrittenText.{written_is}
use Rattle.satp_canon.proofs.laws.law_written.Goals as goal

pub returns : goal.returns
returns c = written_is
