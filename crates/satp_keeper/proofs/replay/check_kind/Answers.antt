use Rattle.std.proofs.Common.{arith}
use Rattle.satp_keeper.proofs.Steps.{first_fault}
use Rattle.satp_keeper.proofs.replay.check_kind.Goals as goal

pub returns-in-Err : goal.returns-in-Err
returns-in-Err c = first_fault c.args.kind c.args.journal.now.held.payloads c.in-Err.fault (omega (arith, c.count.ensures, c.if-count-eq0.false)) c.in-Err.ensures
