use Rattle.satp_rounds.proofs.law_settles.Goals as goal
use Rattle.satp_rounds.proofs.SettleWorlds.{rounds-settle-worlds}

pub returns : goal.returns
returns c = rounds-settle-worlds
