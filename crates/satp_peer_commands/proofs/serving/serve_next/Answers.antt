use Rattle.std.proofs.Common.{◌≡◌, ◌∙◌, subst, arith}
use Rattle.satp_outcome.specs.Outside.{site_state, wire_state}
use Rattle.satp_serve.specs.declared.connection.ConnectionEnd.TheVariants as end
use Rattle.satp_peer_commands.specs.Serving.{GoesOn, Serves, point}
use Rattle.satp_peer_commands.proofs.serving.serve_next.Goals as goal

pub returns-in-Closed-clause-serves : goal.returns-in-Closed-clause-serves
returns-in-Closed-clause-serves g c =
    let served : Serves (point c.args.gateway.now (site_state g.S.Device.faults g.S.Device.told g.S.Device.book c.args.site.now) (wire_state g.W.Wire.faults g.W.Wire.told g.W.Wire.listens g.W.Wire.is_open c.args.wire.now)) c.serve_connection-connection.result (point c.serve_connection-connection.new.gateway (site_state g.S.Device.faults g.S.Device.told g.S.Device.book c.serve_connection-connection.new.site) (wire_state g.W.Wire.faults g.W.Wire.told g.W.Wire.listens g.W.Wire.is_open c.serve_connection-connection.new.wire)) = record {
      accepted = (wire_state g.W.Wire.faults g.W.Wire.told g.W.Wire.listens g.W.Wire.is_open c.accept.new.self);
      accepts = record { told = c.in-Ok.ensures.ok.1; is_open = c.in-Ok.ensures.ok.0; listens = c.in-Ok.ensures.kept; faults = c.in-Ok.ensures.cause.kept };
      answers = c.serve_connection-connection.ensures.says;
      most = c.serve_connection-connection.ensures.most;
      is_open = c.serve_connection-connection.ensures.shut.0;
      listens = c.serve_connection-connection.ensures.shut.1 ∙ c.in-Ok.ensures.kept;
      wire_later = omega (arith, c.in-Ok.ensures.cause.kept, c.serve_connection-connection.ensures.wire_later);
      site_later = c.serve_connection-connection.ensures.site_later;
      site_rose = c.serve_connection-connection.ensures.site_cause;
      site_kept = c.serve_connection-connection.ensures.site_kept;
    } in
    let same : end.Closed ≡ c.serve_connection-connection.result.end = cc c.in-Closed.is in
    (served, subst GoesOn same tt)

pub returns-in-Ended-clause-serves : goal.returns-in-Ended-clause-serves
returns-in-Ended-clause-serves g c =
    let served : Serves (point c.args.gateway.now (site_state g.S.Device.faults g.S.Device.told g.S.Device.book c.args.site.now) (wire_state g.W.Wire.faults g.W.Wire.told g.W.Wire.listens g.W.Wire.is_open c.args.wire.now)) c.serve_connection-connection.result (point c.serve_connection-connection.new.gateway (site_state g.S.Device.faults g.S.Device.told g.S.Device.book c.serve_connection-connection.new.site) (wire_state g.W.Wire.faults g.W.Wire.told g.W.Wire.listens g.W.Wire.is_open c.serve_connection-connection.new.wire)) = record {
      accepted = (wire_state g.W.Wire.faults g.W.Wire.told g.W.Wire.listens g.W.Wire.is_open c.accept.new.self);
      accepts = record { told = c.in-Ok.ensures.ok.1; is_open = c.in-Ok.ensures.ok.0; listens = c.in-Ok.ensures.kept; faults = c.in-Ok.ensures.cause.kept };
      answers = c.serve_connection-connection.ensures.says;
      most = c.serve_connection-connection.ensures.most;
      is_open = c.serve_connection-connection.ensures.shut.0;
      listens = c.serve_connection-connection.ensures.shut.1 ∙ c.in-Ok.ensures.kept;
      wire_later = omega (arith, c.in-Ok.ensures.cause.kept, c.serve_connection-connection.ensures.wire_later);
      site_later = c.serve_connection-connection.ensures.site_later;
      site_rose = c.serve_connection-connection.ensures.site_cause;
      site_kept = c.serve_connection-connection.ensures.site_kept;
    } in
    let same : end.Ended ≡ c.serve_connection-connection.result.end = cc c.in-Ended.is in
    (served, subst GoesOn same tt)

pub returns-in-Wire-clause-serves : goal.returns-in-Wire-clause-serves
returns-in-Wire-clause-serves g c =
    let served : Serves (point c.args.gateway.now (site_state g.S.Device.faults g.S.Device.told g.S.Device.book c.args.site.now) (wire_state g.W.Wire.faults g.W.Wire.told g.W.Wire.listens g.W.Wire.is_open c.args.wire.now)) c.serve_connection-connection.result (point c.serve_connection-connection.new.gateway (site_state g.S.Device.faults g.S.Device.told g.S.Device.book c.serve_connection-connection.new.site) (wire_state g.W.Wire.faults g.W.Wire.told g.W.Wire.listens g.W.Wire.is_open c.serve_connection-connection.new.wire)) = record {
      accepted = (wire_state g.W.Wire.faults g.W.Wire.told g.W.Wire.listens g.W.Wire.is_open c.accept.new.self);
      accepts = record { told = c.in-Ok.ensures.ok.1; is_open = c.in-Ok.ensures.ok.0; listens = c.in-Ok.ensures.kept; faults = c.in-Ok.ensures.cause.kept };
      answers = c.serve_connection-connection.ensures.says;
      most = c.serve_connection-connection.ensures.most;
      is_open = c.serve_connection-connection.ensures.shut.0;
      listens = c.serve_connection-connection.ensures.shut.1 ∙ c.in-Ok.ensures.kept;
      wire_later = omega (arith, c.in-Ok.ensures.cause.kept, c.serve_connection-connection.ensures.wire_later);
      site_later = c.serve_connection-connection.ensures.site_later;
      site_rose = c.serve_connection-connection.ensures.site_cause;
      site_kept = c.serve_connection-connection.ensures.site_kept;
    } in
    let same : end.Wire ≡ c.serve_connection-connection.result.end = cc c.in-Wire.is in
    (served, subst GoesOn same tt)

pub returns-in-Site-clause-serves : goal.returns-in-Site-clause-serves
returns-in-Site-clause-serves g c =
    let served : Serves (point c.args.gateway.now (site_state g.S.Device.faults g.S.Device.told g.S.Device.book c.args.site.now) (wire_state g.W.Wire.faults g.W.Wire.told g.W.Wire.listens g.W.Wire.is_open c.args.wire.now)) c.serve_connection-connection.result (point c.serve_connection-connection.new.gateway (site_state g.S.Device.faults g.S.Device.told g.S.Device.book c.serve_connection-connection.new.site) (wire_state g.W.Wire.faults g.W.Wire.told g.W.Wire.listens g.W.Wire.is_open c.serve_connection-connection.new.wire)) = record {
      accepted = (wire_state g.W.Wire.faults g.W.Wire.told g.W.Wire.listens g.W.Wire.is_open c.accept.new.self);
      accepts = record { told = c.in-Ok.ensures.ok.1; is_open = c.in-Ok.ensures.ok.0; listens = c.in-Ok.ensures.kept; faults = c.in-Ok.ensures.cause.kept };
      answers = c.serve_connection-connection.ensures.says;
      most = c.serve_connection-connection.ensures.most;
      is_open = c.serve_connection-connection.ensures.shut.0;
      listens = c.serve_connection-connection.ensures.shut.1 ∙ c.in-Ok.ensures.kept;
      wire_later = omega (arith, c.in-Ok.ensures.cause.kept, c.serve_connection-connection.ensures.wire_later);
      site_later = c.serve_connection-connection.ensures.site_later;
      site_rose = c.serve_connection-connection.ensures.site_cause;
      site_kept = c.serve_connection-connection.ensures.site_kept;
    } in
    (c.serve_connection-connection.result, served, cc c.in-Site.is)

pub returns-in-Memory-clause-serves : goal.returns-in-Memory-clause-serves
returns-in-Memory-clause-serves g c =
    let served : Serves (point c.args.gateway.now (site_state g.S.Device.faults g.S.Device.told g.S.Device.book c.args.site.now) (wire_state g.W.Wire.faults g.W.Wire.told g.W.Wire.listens g.W.Wire.is_open c.args.wire.now)) c.serve_connection-connection.result (point c.serve_connection-connection.new.gateway (site_state g.S.Device.faults g.S.Device.told g.S.Device.book c.serve_connection-connection.new.site) (wire_state g.W.Wire.faults g.W.Wire.told g.W.Wire.listens g.W.Wire.is_open c.serve_connection-connection.new.wire)) = record {
      accepted = (wire_state g.W.Wire.faults g.W.Wire.told g.W.Wire.listens g.W.Wire.is_open c.accept.new.self);
      accepts = record { told = c.in-Ok.ensures.ok.1; is_open = c.in-Ok.ensures.ok.0; listens = c.in-Ok.ensures.kept; faults = c.in-Ok.ensures.cause.kept };
      answers = c.serve_connection-connection.ensures.says;
      most = c.serve_connection-connection.ensures.most;
      is_open = c.serve_connection-connection.ensures.shut.0;
      listens = c.serve_connection-connection.ensures.shut.1 ∙ c.in-Ok.ensures.kept;
      wire_later = omega (arith, c.in-Ok.ensures.cause.kept, c.serve_connection-connection.ensures.wire_later);
      site_later = c.serve_connection-connection.ensures.site_later;
      site_rose = c.serve_connection-connection.ensures.site_cause;
      site_kept = c.serve_connection-connection.ensures.site_kept;
    } in
    (c.serve_connection-connection.result, served, cc c.in-Memory.is)
