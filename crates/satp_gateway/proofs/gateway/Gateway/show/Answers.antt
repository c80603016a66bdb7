use Rattle.std.proofs.Common.{sym, subst}
use Rattle.satp_points.specs.States.{Holds}
use Rattle.satp_gateway.proofs.gateway.Gateway.show.Goals as goal

pub returns : goal.returns
returns c = λ setup xs h. c.view.ensures setup xs (c.log.ensures.holds setup xs (subst (λ g. Holds g setup xs) (sym c.self.view_is) h)).0
