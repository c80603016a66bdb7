use Rattle.satp_sides.proofs.MoveLaw.{moves-go}
use Rattle.satp_sides.proofs.OthersLaw.{due-of, runs-are-of}
use Rattle.satp_sides.proofs.SaidLaw.{said-is-kept}
use Rattle.satp_sides.proofs.law_moves.Goals as goal

pub returns-clause-go : goal.returns-clause-go
returns-clause-go c = moves-go

pub returns-clause-said : goal.returns-clause-said
returns-clause-said c = said-is-kept

pub returns-clause-due_of : goal.returns-clause-due_of
returns-clause-due_of c = due-of

pub returns-clause-call_of : goal.returns-clause-call_of
returns-clause-call_of c = runs-are-of
