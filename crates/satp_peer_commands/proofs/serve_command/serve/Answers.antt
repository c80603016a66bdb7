use Rattle.satp_outcome.specs.Outside.{site_state}
use Rattle.satp_gateway_commands.specs.AtGateway.AtGateway.{works}
use Rattle.satp_peer_commands.proofs.serve_command.serve.Goals as goal

pub returns-in-Ok-clause-rule : goal.returns-in-Ok-clause-rule
returns-in-Ok-clause-rule g c = λ input. works c.in-Ok.gateway (site_state g.S.Device.faults g.S.Device.told g.S.Device.book c.open_at.new.site) c.in-Ok.ensures.opened (c.serve_at.ensures.works input)
