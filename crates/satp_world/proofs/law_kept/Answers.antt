use Rattle.satp_world.proofs.KeptLaw.{bag-was-said, logs-kept, moves-reach}
use Rattle.satp_world.proofs.RoomLaw.{room-left}
use Rattle.satp_world.proofs.SenderLaw.{said-is-short, sender-knows}
use Rattle.satp_world.proofs.law_kept.Goals as goal

pub returns-clause-logs : goal.returns-clause-logs
returns-clause-logs c = logs-kept

pub returns-clause-said : goal.returns-clause-said
returns-clause-said c = bag-was-said

pub returns-clause-moves : goal.returns-clause-moves
returns-clause-moves c = moves-reach

pub returns-clause-sender : goal.returns-clause-sender
returns-clause-sender c = sender-knows

pub returns-clause-room : goal.returns-clause-room
returns-clause-room c = room-left

pub returns-clause-short : goal.returns-clause-short
returns-clause-short c = said-is-short
