use Rattle.satp_words.proofs.OneCommand.{same_command}
use Rattle.satp_words.proofs.laws.law_one_command.Goals as goal

pub returns : goal.returns
returns c = same_command
