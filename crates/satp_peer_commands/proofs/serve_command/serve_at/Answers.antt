use Rattle.std.proofs.Common.{refl}
use Rattle.satp_outcome.specs.Outside.{sink, wire_state}
use Rattle.satp_peer_commands.specs.Serving.ServeWorks.{serves}
use Rattle.satp_peer_commands.specs.Serving.Tells.{printed, not_printed}
use Rattle.satp_peer_commands.proofs.serve_command.serve_at.Goals as goal

pub returns-in-Ok-told-clause-works : goal.returns-in-Ok-told-clause-works
returns-in-Ok-told-clause-works g c = λ input.
    serves (wire_state g.W.Wire.faults g.W.Wire.told g.W.Wire.listens g.W.Wire.is_open c.listen.new.self) c.serve_all-served.new.gateway c.serve_all-served.result
    (record { told = c.in-Ok.ensures.ok.1; listens = c.in-Ok.ensures.ok.0; is_open = c.in-Ok.ensures.kept; faults = c.in-Ok.ensures.cause.kept })
    c.serve_all-served.ensures.serves refl (printed (sink g.K.Sink.faults g.K.Sink.taken g.K.Sink.has_failed c.say-told.new.out) c.in-Ok-told.ensures c.conclude.ensures)

pub returns-in-Err-clause-works : goal.returns-in-Err-clause-works
returns-in-Err-clause-works g c = λ input.
    serves (wire_state g.W.Wire.faults g.W.Wire.told g.W.Wire.listens g.W.Wire.is_open c.listen.new.self) c.serve_all-served.new.gateway c.serve_all-served.result
    (record { told = c.in-Ok.ensures.ok.1; listens = c.in-Ok.ensures.ok.0; is_open = c.in-Ok.ensures.kept; faults = c.in-Ok.ensures.cause.kept })
    c.serve_all-served.ensures.serves refl (not_printed c.in-Err.ensures c.unprinted.ensures)
