use Rattle.satp_log.proofs.Entries.{found-is, none-there}
use Rattle.satp_log.proofs.held.is_of.Goals as goal

pub returns-in-Some : goal.returns-in-Some
returns-in-Some c = λ h e. found-is c.args.entries.now c.args.index c.is_same.result c.in-Some.held.now h c.args.session e c.in-Some.ensures.lookup.1 c.is_same.ensures

pub returns-in-None : goal.returns-in-None
returns-in-None c = λ h e. none-there c.args.entries.now c.args.index h c.args.session e c.in-None.ensures.lookup.0
