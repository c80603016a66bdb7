use Rattle.std.proofs.Common.{refl, subst}
use Rattle.satp_site.specs.Directories.{DirectoryState, directory_state}
use Rattle.satp_site.specs.Ledgers.{state_of}
use Rattle.satp_site.specs.Sites.{IsRaisedOn, IsUnopened}
use Rattle.satp_site.proofs.site.RealSiteSite.raise.Goals as goal

pub returns-in-Ok-clause-raises : goal.returns-in-Ok-clause-raises
returns-in-Ok-clause-raises g c =
    let shown = directory_state g.D.Device.told g.D.Device.faults g.D.Directory.second_state in
    let s = state_of c.in-Ok.ledger in
    (s, refl, subst (λ (d : DirectoryState). IsRaisedOn d (shown c.open_on_second.new.disk) s) c.let_go.ensures.disk (c.in-Ok.ensures.0, c.in-Ok.ensures.1, c.in-Ok.ensures.2))

pub returns-in-Err-clause-raises : goal.returns-in-Err-clause-raises
returns-in-Err-clause-raises g c =
    let shown = directory_state g.D.Device.told g.D.Device.faults g.D.Directory.second_state in
    rw c.counted.ensures.same (
    rw c.let_go.ensures.ledger (refl, subst (λ (d : DirectoryState). IsUnopened d (shown c.open_on_second.new.disk)) c.let_go.ensures.disk c.in-Err.ensures)
    )
