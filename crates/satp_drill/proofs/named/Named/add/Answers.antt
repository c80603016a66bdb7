use Rattle.std.proofs.Common.{◌≡◌, Option, sym, subst}
use Rattle.std.specs.Prelude.{OnOk}
use Rattle.satp_base.specs.declared.session.SessionId.{SessionId}
use Rattle.satp_drill.specs.Naming.{adding}
use Rattle.satp_drill.proofs.NamingLemmas.{start-named}
use Rattle.satp_drill.proofs.named.Named.add.Goals as goal

pub returns-in-Start : goal.returns-in-Start
returns-in-Start c =
    let is = start-named c.args.line.now c.in-Start.side c.in-Start.number c.in-Start.asset c.in-Start.amount c.in-Start.originator c.in-Start.beneficiary c.started.result c.in-Start.is c.requires c.started.ensures.gateway c.started.ensures.number in
    subst (λ (o : Option SessionId). OnOk c.add_session.result (c.add_session.new.self ≡ adding c.args.self.now o)) (sym is) c.add_session.ensures
