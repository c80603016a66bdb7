use Rattle.std.proofs.Common.{◌++◌, [], ◌∷◌}
use Rattle.std.specs.Prelude.{codes}
use Rattle.satp_outcome.specs.Outside.{sink}
use Rattle.satp_outcome.proofs.Lines.{said_both}
use Rattle.satp_peer_commands.proofs.Lines.{part_of_both}
use Rattle.satp_peer_commands.specs.Serving.{counted}
use Rattle.satp_peer_commands.proofs.serve_command.say_tally.Goals as goal

pub returns-in-Ok : goal.returns-in-Ok
returns-in-Ok g c = said_both (counted [] c.args.tally.requests (codes " requests, ")) (counted [] c.args.tally.faults (codes " faults" ++ 10 ∷ [])) (sink g.K.Sink.faults g.K.Sink.taken g.K.Sink.has_failed c.args.out.now) (sink g.K.Sink.faults g.K.Sink.taken g.K.Sink.has_failed c.say_numbered.new.out) (sink g.K.Sink.faults g.K.Sink.taken g.K.Sink.has_failed c.say_numbered-in-Ok.new.out) c.say_numbered-in-Ok.result c.in-Ok.ensures c.say_numbered-in-Ok.ensures

pub returns-in-Err : goal.returns-in-Err
returns-in-Err g c = part_of_both (counted [] c.args.tally.requests (codes " requests, ")) (counted [] c.args.tally.faults (codes " faults" ++ 10 ∷ [])) (sink g.K.Sink.faults g.K.Sink.taken g.K.Sink.has_failed c.args.out.now) (sink g.K.Sink.faults g.K.Sink.taken g.K.Sink.has_failed c.say_numbered.new.out) c.in-Err.ensures
