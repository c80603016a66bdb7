use Rattle.std.proofs.Common.{subst}
use Rattle.satp_serve.specs.declared.connection.ConnectionEnd.{ConnectionEnd}
use Rattle.satp_serve.specs.Connections.{Hears}
use Rattle.satp_serve.specs.GatewayReplies.{GatewayReplies, RepliesAt, site_view}
use Rattle.satp_serve.proofs.GatewayKeeping.{connection_beside, connection_count, connection_later, connection_rose, connection_within, views}
use Rattle.satp_serve.proofs.Viewing.{connection_viewed}
use Rattle.satp_serve.proofs.gateway_connection.serve_connection.Goals as goal

pub returns-clause-says : goal.returns-clause-says
returns-clause-says g c =
    let view = site_view g.S.Device.told g.S.Device.book g.S.Device.faults in
    connection_viewed view (RepliesAt view g.S.Device.beside) GatewayReplies (views view g.S.Device.beside) c.args.gateway.now c.args.site.now c.serve_connection_over.new.responder c.serve_connection_over.new.site c.serve_connection_over.result.requests (g.W.Wire.told c.args.wire.now) (g.W.Wire.told c.serve_connection_over.new.wire) (g.W.Wire.faults c.args.wire.now) (g.W.Wire.faults c.serve_connection_over.new.wire) c.serve_connection_over.result.end c.serve_connection_over.ensures.says

pub returns-clause-within : goal.returns-clause-within
returns-clause-within g c =
    let view = site_view g.S.Device.told g.S.Device.book g.S.Device.faults in
    connection_within c.args.gateway.now (view c.args.site.now) c.serve_connection_over.new.responder (view c.serve_connection_over.new.site) c.serve_connection_over.result.requests (g.W.Wire.told c.args.wire.now) (g.W.Wire.told c.serve_connection_over.new.wire) (g.W.Wire.faults c.args.wire.now) (g.W.Wire.faults c.serve_connection_over.new.wire) c.serve_connection_over.result.end
    (connection_viewed view (RepliesAt view g.S.Device.beside) GatewayReplies (views view g.S.Device.beside) c.args.gateway.now c.args.site.now c.serve_connection_over.new.responder c.serve_connection_over.new.site c.serve_connection_over.result.requests (g.W.Wire.told c.args.wire.now) (g.W.Wire.told c.serve_connection_over.new.wire) (g.W.Wire.faults c.args.wire.now) (g.W.Wire.faults c.serve_connection_over.new.wire) c.serve_connection_over.result.end c.serve_connection_over.ensures.says) c.requires.within

pub returns-clause-site_beside : goal.returns-clause-site_beside
returns-clause-site_beside g c =
    let view = site_view g.S.Device.told g.S.Device.book g.S.Device.faults in
    connection_beside view g.S.Device.beside g.S.Device.beside_same g.S.Device.beside_then c.args.gateway.now c.args.site.now c.serve_connection_over.new.responder c.serve_connection_over.new.site c.serve_connection_over.result.requests (g.W.Wire.told c.args.wire.now) (g.W.Wire.told c.serve_connection_over.new.wire) (g.W.Wire.faults c.args.wire.now) (g.W.Wire.faults c.serve_connection_over.new.wire) c.serve_connection_over.result.end c.serve_connection_over.ensures.says

pub returns-clause-site_later : goal.returns-clause-site_later
returns-clause-site_later g c =
    let view = site_view g.S.Device.told g.S.Device.book g.S.Device.faults in
    connection_later c.args.gateway.now (view c.args.site.now) c.serve_connection_over.new.responder (view c.serve_connection_over.new.site) c.serve_connection_over.result.requests (g.W.Wire.told c.args.wire.now) (g.W.Wire.told c.serve_connection_over.new.wire) (g.W.Wire.faults c.args.wire.now) (g.W.Wire.faults c.serve_connection_over.new.wire) c.serve_connection_over.result.end
    (connection_viewed view (RepliesAt view g.S.Device.beside) GatewayReplies (views view g.S.Device.beside) c.args.gateway.now c.args.site.now c.serve_connection_over.new.responder c.serve_connection_over.new.site c.serve_connection_over.result.requests (g.W.Wire.told c.args.wire.now) (g.W.Wire.told c.serve_connection_over.new.wire) (g.W.Wire.faults c.args.wire.now) (g.W.Wire.faults c.serve_connection_over.new.wire) c.serve_connection_over.result.end c.serve_connection_over.ensures.says)

pub returns-clause-site_kept : goal.returns-clause-site_kept
returns-clause-site_kept g c =
    let view = site_view g.S.Device.told g.S.Device.book g.S.Device.faults in
    connection_count c.args.gateway.now (view c.args.site.now) c.serve_connection_over.new.responder (view c.serve_connection_over.new.site) c.serve_connection_over.result.requests (g.W.Wire.told c.args.wire.now) (g.W.Wire.told c.serve_connection_over.new.wire) (g.W.Wire.faults c.args.wire.now) (g.W.Wire.faults c.serve_connection_over.new.wire) c.serve_connection_over.result.end
    (connection_viewed view (RepliesAt view g.S.Device.beside) GatewayReplies (views view g.S.Device.beside) c.args.gateway.now c.args.site.now c.serve_connection_over.new.responder c.serve_connection_over.new.site c.serve_connection_over.result.requests (g.W.Wire.told c.args.wire.now) (g.W.Wire.told c.serve_connection_over.new.wire) (g.W.Wire.faults c.args.wire.now) (g.W.Wire.faults c.serve_connection_over.new.wire) c.serve_connection_over.result.end c.serve_connection_over.ensures.says)

pub returns-clause-site_cause : goal.returns-clause-site_cause
returns-clause-site_cause g c = λ site.
    let view = site_view g.S.Device.told g.S.Device.book g.S.Device.faults in
    connection_rose c.args.gateway.now (view c.args.site.now) c.serve_connection_over.new.responder (view c.serve_connection_over.new.site) c.serve_connection_over.result.requests (g.W.Wire.told c.args.wire.now) (g.W.Wire.told c.serve_connection_over.new.wire) (g.W.Wire.faults c.args.wire.now) (g.W.Wire.faults c.serve_connection_over.new.wire)
    (subst (λ (why : ConnectionEnd). Hears GatewayReplies c.args.gateway.now (view c.args.site.now) c.serve_connection_over.new.responder (view c.serve_connection_over.new.site) c.serve_connection_over.result.requests (g.W.Wire.told c.args.wire.now) (g.W.Wire.told c.serve_connection_over.new.wire) (g.W.Wire.faults c.args.wire.now) (g.W.Wire.faults c.serve_connection_over.new.wire) why) site
    (connection_viewed view (RepliesAt view g.S.Device.beside) GatewayReplies (views view g.S.Device.beside) c.args.gateway.now c.args.site.now c.serve_connection_over.new.responder c.serve_connection_over.new.site c.serve_connection_over.result.requests (g.W.Wire.told c.args.wire.now) (g.W.Wire.told c.serve_connection_over.new.wire) (g.W.Wire.faults c.args.wire.now) (g.W.Wire.faults c.serve_connection_over.new.wire) c.serve_connection_over.result.end c.serve_connection_over.ensures.says))
