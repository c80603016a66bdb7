use Rattle.satp_base.proofs.AsciiText.{ascii_at}
use Rattle.satp_base.proofs.canonical.law_ascii.Goals as goal

pub returns : goal.returns
returns c m i = ascii_at m i
