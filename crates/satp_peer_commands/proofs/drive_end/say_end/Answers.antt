use Rattle.std.proofs.Common.{◌++◌, [], ◌∷◌}
use Rattle.std.specs.Prelude.{codes, decimal}
use Rattle.satp_base.specs.Values.{session_text}
use Rattle.satp_outcome.specs.Outside.{sink}
use Rattle.satp_outcome.proofs.Lines.{said_both}
use Rattle.satp_peer_commands.proofs.drive_end.say_end.Goals as goal

pub returns-in-Ok : goal.returns-in-Ok
returns-in-Ok g c =
    said_both (session_text c.args.session ++ c.args.way.now) (decimal c.args.messages ++ (codes " messages" ++ 10 ∷ [])) (sink g.K.Sink.faults g.K.Sink.taken g.K.Sink.has_failed c.args.out.now)
    (sink g.K.Sink.faults g.K.Sink.taken g.K.Sink.has_failed c.say_session.new.out) (sink g.K.Sink.faults g.K.Sink.taken g.K.Sink.has_failed c.say_numbered.new.out) c.say_numbered.result c.in-Ok.ensures c.say_numbered.ensures
