use Rattle.satp_gateway_commands.specs.AtGateway.AtGateway.{works}
use Rattle.satp_outcome.specs.Outside.{site_state}
use Rattle.satp_gateway_commands.proofs.show_command.show.Goals as goal

pub returns-in-Ok-clause-rule : goal.returns-in-Ok-clause-rule
returns-in-Ok-clause-rule g c = λ input wire. works c.in-Ok.gateway (site_state g.S.Device.faults g.S.Device.told g.S.Device.book c.open_at.new.site) c.in-Ok.ensures.opened (c.show_session.ensures.works input wire)
