use Rattle.satp_world.proofs.HonestRounds.{honest-taken}
use Rattle.satp_world.proofs.law_honest.Goals as goal

pub returns : goal.returns
returns c = record { taken = honest-taken }
