use Rattle.std.proofs.Common.{refl, subst}
use Rattle.satp_site.specs.Directories.{DirectoryState, directory_state}
use Rattle.satp_site.specs.Ledgers.{state_of}
use Rattle.satp_site.specs.Sites.{IsFoundedOn}
use Rattle.satp_site.proofs.site.RealSiteSite.found.Goals as goal

pub returns-in-Ok-clause-founds : goal.returns-in-Ok-clause-founds
returns-in-Ok-clause-founds g c =
    let shown = directory_state g.D.Device.told g.D.Device.faults g.D.Directory.second_state in
    let s = state_of c.in-Ok.ledger in
    (s, refl, subst (λ (d : DirectoryState). IsFoundedOn c.args.kind c.args.genesis.now d (shown c.found_on_second.new.disk) s) c.let_go.ensures.disk (c.in-Ok.ensures.0, c.in-Ok.ensures.1, c.in-Ok.ensures.2))
