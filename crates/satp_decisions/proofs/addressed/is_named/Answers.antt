use Rattle.std.proofs.Common.{ap, sym}
use Rattle.std.specs.Prelude.{is_some}
use Rattle.satp_decisions.proofs.addressed.is_named.Goals as goal

pub returns-in-Some : goal.returns-in-Some
returns-in-Some c = λ setup xs h. sym (ap is_some (c.in-Some.ensures.found setup xs h).slot)

pub returns-in-None : goal.returns-in-None
returns-in-None c = λ setup xs h. sym (ap is_some (c.in-None.ensures.found setup xs h))
