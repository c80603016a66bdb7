use Rattle.satp_drive.proofs.HeardBytes.{drives_hear_answers, last_unanswered}
use Rattle.satp_drive.proofs.laws.law_drives.Goals as goal

pub returns-clause-whole : goal.returns-clause-whole
returns-clause-whole c = drives_hear_answers

pub returns-clause-last : goal.returns-clause-last
returns-clause-last c = last_unanswered
