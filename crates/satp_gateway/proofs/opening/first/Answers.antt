use Rattle.std.proofs.Common.{sym, subst, Err}
use Rattle.satp_log.specs.Logged.{LogReads}
use Rattle.satp_log.proofs.ReadLemmas.{first-err, first-ok, none-first}
use Rattle.satp_gateway.proofs.opening.first.Goals as goal

pub returns-in-Ok : goal.returns-in-Ok
returns-in-Ok c = first-ok c.args.journal.now.held.payloads c.in-Some.payload.now c.in-Ok.log (sym c.in-Some.ensures) c.in-Ok.ensures

pub returns-in-Err : goal.returns-in-Err
returns-in-Err c =
    subst (λ f. LogReads c.args.journal.now.held.payloads (Err f)) (sym c.fault_at.ensures) (first-err c.args.journal.now.held.payloads c.in-Some.payload.now c.in-Err.misfit (sym c.in-Some.ensures) c.in-Err.ensures)

pub returns-in-None : goal.returns-in-None
returns-in-None c = none-first c.args.journal.now.held.payloads (sym c.in-None.ensures)
