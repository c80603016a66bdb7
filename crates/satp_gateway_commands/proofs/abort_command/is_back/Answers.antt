use Rattle.std.proofs.Common.{◌∙◌, ap, sym}
use Rattle.satp_base.specs.Tales.{is_rolled_back}
use Rattle.satp_sides.specs.Points.{tale_of}
use Rattle.satp_gateway_commands.proofs.abort_command.is_back.Goals as goal

pub returns-in-Some : goal.returns-in-Some
returns-in-Some c = λ setup xs holds. ap (λ v. is_rolled_back (tale_of v)) (sym (c.show.ensures setup xs holds) ∙ c.in-Some.is) ∙ sym c.ends_back.ensures
