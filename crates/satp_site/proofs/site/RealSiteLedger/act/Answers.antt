use Rattle.satp_site.proofs.Untold.{untold_act}
use Rattle.satp_site.proofs.site.RealSiteLedger.act.Goals as goal

pub returns-clause-told : goal.returns-clause-told
returns-clause-told g c = untold_act _ _ _
