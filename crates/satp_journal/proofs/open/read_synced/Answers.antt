use Rattle.std.proofs.Common.{refl, ap, ◌∙◌, sym, [], Some, None, option_map}
use Rattle.satp_base.specs.Calls.{made}
use Rattle.satp_base.specs.declared.area.Event.TheVariants.{Synced}
use Rattle.satp_base.proofs.Made.{made-made, made_none}
use Rattle.satp_journal.specs.Opening.{read_calls}
use Rattle.satp_journal.proofs.Failing.{among_at}
use Rattle.satp_journal.proofs.OpenLemmas.{read_failed}
use Rattle.satp_journal.proofs.open.read_synced.Goals as goal

pub returns-in_err-sync-clause-err : goal.returns-in_err-sync-clause-err
returns-in_err-sync-clause-err g c =
    let old = g.D.Device.told c.args.disk.now in
    let new = g.D.Device.told c.sync.new.self in
    read_failed c.from_residual.result c.args.area old new c.from_residual.ensures.1 (among_at (read_calls c.args.area) 0 (Some (Synced c.args.area)) old old new refl (sym (made_none old)) c.in_err-sync.ensures.err)

pub returns-in_err-bytes-clause-err : goal.returns-in_err-bytes-clause-err
returns-in_err-bytes-clause-err g c =
    let old = g.D.Device.told c.args.disk.now in
    let mid = g.D.Device.told c.length.new.self in
    let new = g.D.Device.told c.read_first.new.disk in
    read_failed c.from_residual-in_err-bytes.result c.args.area old new c.from_residual-in_err-bytes.ensures.1
    (among_at (read_calls c.args.area) 2 None old mid new refl (c.in_ok-length.ensures.ok ∙ ap (option_map (made 1 [])) c.in_ok-sync.ensures.ok ∙ made-made 1 1 _ _ _) c.in_err-bytes.ensures.err)
