use Rattle.satp_keeper.proofs.Steps.{done_follows}
use Rattle.satp_keeper.proofs.replay.Replay.go_on.Goals as goal

pub returns-in-Ok : goal.returns-in-Ok
returns-in-Ok g c = done_follows g.C.LedgerCore.book c.args.self.now.genesis c.args.core c.is_done.new.core c.args.op c.args.session c.args.terms.now c.in-Ok.done c.in-Ok.ensures
