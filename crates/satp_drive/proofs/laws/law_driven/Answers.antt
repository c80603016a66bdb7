use Rattle.satp_drive.proofs.DriveLaw.{drive_law}
use Rattle.satp_drive.proofs.laws.law_driven.Goals as goal

pub returns : goal.returns
returns c = drive_law
