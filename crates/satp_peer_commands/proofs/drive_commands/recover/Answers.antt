use Rattle.satp_gateway_commands.specs.AtGateway.AtGateway.{works}
use Rattle.satp_gateway_commands.proofs.Openings.{held}
use Rattle.satp_outcome.specs.Outside.{site_state}
use Rattle.satp_peer_commands.proofs.drive_commands.recover.Goals as goal

pub returns-in-Ok-clause-rule : goal.returns-in-Ok-clause-rule
returns-in-Ok-clause-rule g c = λ input. works c.in-Ok.gateway (site_state g.S.Device.faults g.S.Device.told g.S.Device.book c.open_at.new.site) c.in-Ok.ensures.opened (c.recover_at.ensures.works input)

pub returns-in-Ok-clause-site_beside : goal.returns-in-Ok-clause-site_beside
returns-in-Ok-clause-site_beside g c = g.S.Device.beside_then c.args.site.now c.open_at.new.site c.recover_at.new.site c.open_at.ensures.beside c.recover_at.ensures.site_beside

pub recover_at-requires-clause-holds : goal.recover_at-requires-clause-holds
recover_at-requires-clause-holds g c = held c.args.dir.now (site_state g.S.Device.faults g.S.Device.told g.S.Device.book c.args.site.now) (site_state g.S.Device.faults g.S.Device.told g.S.Device.book c.open_at.new.site) c.in-Ok.gateway c.in-Ok.ensures.opened
