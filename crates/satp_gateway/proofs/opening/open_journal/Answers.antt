use Rattle.std.proofs.Common.{subst, sym}
use Rattle.satp_gateway.specs.Opening.{FailsBefore}
use Rattle.satp_gateway.proofs.Openings.{not_read}
use Rattle.satp_gateway.proofs.opening.open_journal.Goals as goal

pub returns-in-Err-read-clause-opens : goal.returns-in-Err-read-clause-opens
returns-in-Err-read-clause-opens g c =
    let old = g.S.Device.told c.args.site.now in
    let new = g.S.Device.told c.open.new.disk in
    subst (λ f. FailsBefore f old new) (sym c.not_read.ensures) (not_read old new c.in-Ok.journal c.in-Err-read.fault c.in-Ok.ensures.answers c.in-Err-read.ensures)
