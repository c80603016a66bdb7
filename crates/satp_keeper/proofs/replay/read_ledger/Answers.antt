use Rattle.std.proofs.Common.{arith}
use Rattle.satp_keeper.specs.Replaying.{replay_state}
use Rattle.satp_keeper.proofs.Steps.{later_fault, whole_list}
use Rattle.satp_keeper.proofs.replay.read_ledger.Goals as goal

pub returns-in-Err-step : goal.returns-in-Err-step
returns-in-Err-step g c =
    let book = g.C.LedgerCore.book in
    later_fault c.args.kind c.args.journal.now.held.payloads c.loop-index.index (replay_state book c.loop-index.replay.genesis c.loop-index.replay.core) (replay_state book c.step.new.self.genesis c.step.new.self.core) c.in-Err-step.fault
    (omega (arith, c.count-index-end.ensures, c.loop-index-test.true)) c.loop-index.invariant c.in-Err-step.ensures

pub returns-in-Ok-finish : goal.returns-in-Ok-finish
returns-in-Ok-finish g c =
    let f = replay_state g.C.LedgerCore.book c.loop-index.replay.genesis c.loop-index.replay.core in
    whole_list c.args.kind c.args.journal.now.held.payloads c.loop-index.index f (g.C.LedgerCore.book c.in-Ok-finish.core) (omega (arith, c.count-index-end.ensures, c.loop-index-test.false)) c.loop-index.invariant c.in-Ok-finish.ensures
