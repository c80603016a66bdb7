use Rattle.satp_keeper.proofs.ClearLemmas.{unopened_by}
use Rattle.satp_keeper.proofs.kept.open_ledger.Goals as goal

pub returns-in-Err-read_ledger-clause-opened : goal.returns-in-Err-read_ledger-clause-opened
returns-in-Err-read_ledger-clause-opened g c = unopened_by c.args.kind (g.D.Device.told c.args.disk.now) (g.D.Device.told c.open.new.disk) c.in-Ok.journal c.in-Err-read_ledger.fault c.in-Ok.ensures.answers c.in-Err-read_ledger.ensures
