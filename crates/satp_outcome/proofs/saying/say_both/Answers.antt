use Rattle.satp_outcome.specs.Outside.{sink}
use Rattle.satp_outcome.proofs.Lines.{said_both}
use Rattle.satp_outcome.proofs.saying.say_both.Goals as goal

pub returns-in-Ok : goal.returns-in-Ok
returns-in-Ok g c = said_both c.args.first.now c.args.second.now (sink g.K.Sink.faults g.K.Sink.taken g.K.Sink.has_failed c.args.out.now) (sink g.K.Sink.faults g.K.Sink.taken g.K.Sink.has_failed c.say.new.out) (sink g.K.Sink.faults g.K.Sink.taken g.K.Sink.has_failed c.say-in-Ok.new.out) c.say-in-Ok.result c.in-Ok.ensures c.say-in-Ok.ensures
