use Rattle.std.proofs.Common.{refl}
use Rattle.satp_site.proofs.kept_ledger.KeptLedger.look_at.Goals as goal

pub returns-in-Some-clause-looks : goal.returns-in-Some-clause-looks
returns-in-Some-clause-looks g c = rw c.in-Some.is (_, refl, c.look.ensures.shown)
