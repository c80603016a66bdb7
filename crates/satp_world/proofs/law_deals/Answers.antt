use Rattle.satp_world.proofs.DealLaw.{law_deals}
use Rattle.satp_world.proofs.law_deals.Goals as goal

pub returns : goal.returns
returns c = law_deals
