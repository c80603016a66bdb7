use Rattle.satp_money.proofs.TotalsLaw.{owners_have_all}
use Rattle.satp_money.proofs.laws.law_totals.Goals as goal

pub returns : goal.returns
returns c = owners_have_all
