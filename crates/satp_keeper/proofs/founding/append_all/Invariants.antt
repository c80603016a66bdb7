use Rattle.std.proofs.Common.{◌≡◌, ◌≤◌, ◌+◌, false, length, take}
use Rattle.std.specs.Prelude.{IfSome}
use Rattle.std.specs.List.{sum_by}
use Rattle.satp_base.specs.declared.area.Area.TheVariants.{Ledger}
use Rattle.satp_journal.specs.Opening.{Rests}
use Rattle.satp_journal.specs.State.{Fits}
use Rattle.satp_base.specs.Calls.{Makes}
use Rattle.satp_keeper.specs.Founding.{stored_calls}
use Rattle.satp_keeper.proofs.founding.append_all.Given as goal

abbrev pub invariant-loop-index : goal.invariant-loop-index
invariant-loop-index g l =
    let told = g.D.Device.told l.disk in
    (l.journal.held.area ≡ Ledger) × (l.journal.held.broken ≡ false) × Fits l.journal.held told × Rests told l.journal.held × IfSome told (λ t. l.journal.held.payloads ≡ take l.index l.texts)
    × Makes (stored_calls (take l.index l.texts)) (g.D.Device.told l.initial.disk) told
    × (length l.texts ≤ l.index + l.journal.spare_records) × (sum_by length l.texts ≤ sum_by length (take l.index l.texts) + l.journal.spare_bytes)
    × (g.D.Device.book l.disk ≡ g.D.Device.book l.initial.disk) × (g.D.Device.faults l.disk ≡ g.D.Device.faults l.initial.disk) × g.D.Device.beside l.initial.disk l.disk
