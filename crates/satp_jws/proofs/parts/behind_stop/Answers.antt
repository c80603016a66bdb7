use Rattle.std.proofs.Common.{◌∙◌, sym}
use Rattle.satp_jws.proofs.PartLemmas.{behind_found, behind_none}
use Rattle.satp_jws.proofs.parts.behind_stop.Goals as goal

pub returns-in-Some : goal.returns-in-Some
returns-in-Some c = behind_found c.args.text.now c.in-Some.stop (sym c.first_stop.ensures.stop ∙ c.in-Some.is)

pub returns-in-None : goal.returns-in-None
returns-in-None c = behind_none c.args.text.now (sym c.first_stop.ensures.stop ∙ c.in-None.is)
