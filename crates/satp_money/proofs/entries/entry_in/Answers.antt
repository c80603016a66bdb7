use Rattle.std.proofs.Common.{◌∙◌, ap, sym}
use Rattle.std.specs.Option.{option_copied}
use Rattle.satp_money.proofs.Steps.{entry_found, entry_there}
use Rattle.satp_money.proofs.entries.entry_in.Goals as goal

pub returns-in-Some : goal.returns-in-Some
returns-in-Some c = entry_found c.args.entries.now.entries c.args.session _ (sym c.get.ensures.value ∙ ap option_copied c.in-Some.is)

pub returns-in-None : goal.returns-in-None
returns-in-None c = entry_there c.args.entries.now.entries c.args.session (sym c.get.ensures.value ∙ ap option_copied c.in-None.is)
