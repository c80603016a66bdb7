use Rattle.satp_rounds.proofs.ResumeWorlds.{resumptions-end}
use Rattle.satp_rounds.proofs.Transferring.{proposals-end, resumes-end}
use Rattle.satp_rounds.proofs.law_resumes.Goals as goal

pub returns-clause-sessions : goal.returns-clause-sessions
returns-clause-sessions c = resumes-end

pub returns-clause-proposals : goal.returns-clause-proposals
returns-clause-proposals c = proposals-end

pub returns-clause-worlds : goal.returns-clause-worlds
returns-clause-worlds c = resumptions-end
