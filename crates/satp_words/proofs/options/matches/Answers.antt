use Rattle.std.proofs.Common.{◌≡◌}
use Rattle.satp_words.proofs.Texts.{faulty}
use Rattle.satp_words.specs.declared.command.WordsFault.TheVariants.{Refused}
use Rattle.satp_words.proofs.options.matches.Goals as goal

pub returns-in-Err-clause-refused : goal.returns-in-Err-clause-refused
returns-in-Err-clause-refused c e taken =
    let refused : c.fault.result ≡ Refused = cc in
    faulty _ _ _ c.in-Err.error c.in_ok-command.ensures c.requires c.in-Err.ensures.kinds (c.fault.ensures refused) taken
