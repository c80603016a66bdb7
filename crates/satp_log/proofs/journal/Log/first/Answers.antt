use Rattle.std.proofs.Common.{◌∙◌, ap, sym, subst, Some, Err}
use Rattle.satp_log.specs.Logged.{LogReads}
use Rattle.satp_log.proofs.ReadLemmas.{first-err, first-ok, none-first}
use Rattle.satp_log.proofs.journal.Log.first.Goals as goal

pub returns-in-Ok : goal.returns-in-Ok
returns-in-Ok c = first-ok c.args.payloads.now c.bytes.result.now c.in-Ok.log (sym c.in-Some.ensures ∙ ap Some (sym c.bytes.ensures)) c.in-Ok.ensures

pub returns-in-Err : goal.returns-in-Err
returns-in-Err c =
    subst (λ f. LogReads c.args.payloads.now (Err f)) (sym c.fault_at.ensures) (first-err c.args.payloads.now c.bytes.result.now c.in-Err.misfit (sym c.in-Some.ensures ∙ ap Some (sym c.bytes.ensures)) c.in-Err.ensures)

pub returns-in-None : goal.returns-in-None
returns-in-None c = none-first c.args.payloads.now (sym c.in-None.ensures)
