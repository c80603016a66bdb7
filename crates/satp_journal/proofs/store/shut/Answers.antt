use Rattle.std.proofs.Common.{refl, [], ◌∷◌, Some}
use Rattle.satp_base.specs.Calls.{calls_of}
use Rattle.satp_base.specs.Segments.{shut_events}
use Rattle.satp_base.specs.declared.area.Event.TheVariants.{Wrote, Synced}
use Rattle.satp_journal.proofs.Failing.{fails_first, fails_at}
use Rattle.satp_journal.proofs.store.shut.Goals as goal

pub returns-in_err-write-clause-err : goal.returns-in_err-write-clause-err
returns-in_err-write-clause-err g c =
    fails_first c.from_residual.result (calls_of (shut_events c.args.area c.args.gate)) (Some (Wrote c.args.area c.args.gate (0 ∷ []))) (g.D.Device.told c.args.disk.now) (g.D.Device.told c.write.new.self) refl c.in_err-write.ensures.err

pub returns-in_err-sync-clause-err : goal.returns-in_err-sync-clause-err
returns-in_err-sync-clause-err g c =
    fails_at c.from_residual-in_err-sync.result (calls_of (shut_events c.args.area c.args.gate)) 1 (Some (Synced c.args.area)) (g.D.Device.told c.args.disk.now) (g.D.Device.told c.write.new.self) (g.D.Device.told c.sync.new.self) refl c.in_ok-write.ensures.ok c.in_err-sync.ensures.err
