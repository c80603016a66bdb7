use Rattle.satp_base.proofs.Places.{maker-at}
use Rattle.satp_base.proofs.text_laws.law_turns.Goals as goal

pub returns : goal.returns
returns c = maker-at
