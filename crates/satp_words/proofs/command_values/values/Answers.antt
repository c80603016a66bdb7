use Rattle.std.proofs.Common.{◌∙◌, ap, Some}
use Rattle.clap.specs.Words.{first_value, found_of}
use Rattle.satp_words.specs.Commands.{HasValues}
use Rattle.satp_words.specs.declared.verbs.Verb.TheVariants as verb
use Rattle.satp_words.proofs.Listings.{of_verb}
use Rattle.satp_words.proofs.command_values.values.Goals as goal

pub returns-in-Start-clause-refused : goal.returns-in-Start-clause-refused
returns-in-Start-clause-refused c e command is = of_verb (λ it. ¬ HasValues (first_value (found_of c.args.found.now)) it) (Some verb.Start) (c.start.ensures.refused e) command (is ∙ ap Some c.in-Start.is)

pub returns-in-Init-clause-refused : goal.returns-in-Init-clause-refused
returns-in-Init-clause-refused c e command is = of_verb (λ it. ¬ HasValues (first_value (found_of c.args.found.now)) it) (Some verb.Init) (c.init.ensures.refused e) command (is ∙ ap Some c.in-Init.is)
