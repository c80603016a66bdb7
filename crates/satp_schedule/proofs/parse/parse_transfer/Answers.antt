use Rattle.std.proofs.Common.{sym, ◌∙◌}
use Rattle.satp_schedule.proofs.VerbLemmas.{tail_same}
use Rattle.satp_schedule.proofs.parse.parse_transfer.Goals as goal

pub returns-in_err-name : goal.returns-in_err-name
returns-in_err-name c = rw c.from_residual.ensures (λ t left e. c.in_err-name.ensures t.asset _ e)

pub returns-in_err-amount : goal.returns-in_err-amount
returns-in_err-amount c = rw c.from_residual-in_err-amount.ensures (λ t left e. c.in_err-amount.ensures t.amount _ (tail_same (sym c.in_ok-name.ensures ∙ e)))

pub returns-in_err-name-2 : goal.returns-in_err-name-2
returns-in_err-name-2 c = rw c.from_residual-in_err-name-2.ensures (λ t left e. c.in_err-name-2.ensures t.originator _ (tail_same (sym c.in_ok-amount.ensures ∙ tail_same (sym c.in_ok-name.ensures ∙ e))))

pub returns-in_err-name-3 : goal.returns-in_err-name-3
returns-in_err-name-3 c = rw c.from_residual-in_err-name-3.ensures (λ t left e. c.in_err-name-3.ensures t.beneficiary _ (tail_same (sym c.in_ok-name-2.ensures ∙ tail_same (sym c.in_ok-amount.ensures ∙ tail_same (sym c.in_ok-name.ensures ∙ e)))))
