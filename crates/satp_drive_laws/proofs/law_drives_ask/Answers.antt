use Rattle.satp_drive_laws.proofs.law_drives_ask.Goals as goal
use Rattle.satp_drive_laws.proofs.Asks.{drives-ask}

pub returns : goal.returns
returns c = drives-ask
