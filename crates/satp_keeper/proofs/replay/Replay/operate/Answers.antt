use Rattle.satp_keeper.specs.Replaying.{replay_state}
use Rattle.satp_keeper.proofs.Steps.{begins}
use Rattle.satp_keeper.proofs.replay.Replay.operate.Goals as goal

pub returns-in-Ok : goal.returns-in-Ok
returns-in-Ok g c =
    begins g.C.LedgerCore.book c.args.self.now.genesis c.args.self.now.core c.in-Ok.core (replay_state g.C.LedgerCore.book c.go_on-in-Ok.new.self.genesis c.go_on-in-Ok.new.self.core) c.args.op c.args.session c.args.terms.now c.go_on-in-Ok.result c.in-None.ensures.value c.in-Ok.ensures c.go_on-in-Ok.ensures
