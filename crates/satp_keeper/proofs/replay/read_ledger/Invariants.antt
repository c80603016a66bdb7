use Rattle.std.proofs.Common.{take}
use Rattle.satp_keeper.specs.Replaying.{ReadsTo, replay_state}
use Rattle.satp_keeper.proofs.replay.read_ledger.Given as goal

abbrev pub invariant-loop-index : goal.invariant-loop-index
invariant-loop-index g l = ReadsTo l.fn.kind (take l.index l.journal.held.payloads) (replay_state g.C.LedgerCore.book l.replay.genesis l.replay.core)
