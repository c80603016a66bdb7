use Rattle.std.proofs.Common.{refl}
use Rattle.satp_site.specs.Ledgers.{state_of}
use Rattle.satp_site.proofs.kept_ledger.KeptLedger.act_on.Goals as goal

pub returns-in-Some-clause-acts : goal.returns-in-Some-clause-acts
returns-in-Some-clause-acts g c =
    let told = c.act.ensures.told in
    rw c.in-Some.is (state_of c.act.new.self, refl, c.act.ensures.kept, (told.0, told.1, told.2))
