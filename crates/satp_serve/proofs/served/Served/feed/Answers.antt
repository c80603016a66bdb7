use Rattle.satp_serve.specs.Feeding.{talk}
use Rattle.satp_serve.specs.GatewayReplies.{GatewayReplies, RepliesAt, site_view}
use Rattle.satp_serve.proofs.GatewayKeeping.{cause_in, feed_call, kept_in, still_in, views}
use Rattle.satp_serve.proofs.Viewing.{feed_viewed}
use Rattle.satp_serve.proofs.served.Served.feed.Goals as goal

pub returns-clause-answers : goal.returns-clause-answers
returns-clause-answers g c = λ unclosed.
    let view = site_view g.S.Device.told g.S.Device.book g.S.Device.faults in
    feed_viewed view (RepliesAt view g.S.Device.beside) GatewayReplies (views view g.S.Device.beside) c.args.self.now.feed c.serve_over.new.self.feed (talk c.args.self.now c.args.gateway.now c.args.site.now c.args.said.now) (talk c.serve_over.new.self c.serve_over.new.responder c.serve_over.new.site c.serve_over.new.said)
    c.args.piece.now c.serve_over.result (c.serve_over.ensures.answers unclosed)

pub returns-clause-within : goal.returns-clause-within
returns-clause-within g c =
    let view = site_view g.S.Device.told g.S.Device.book g.S.Device.faults in
    let keeps = feed_call view g.S.Device.beside g.S.Device.beside_same g.S.Device.beside_then c.args.self.now.closed c.args.self.now.feed c.serve_over.new.self.feed (talk c.args.self.now c.args.gateway.now c.args.site.now c.args.said.now) (talk c.serve_over.new.self c.serve_over.new.responder c.serve_over.new.site c.serve_over.new.said)
    c.args.piece.now c.serve_over.result c.serve_over.ensures.answers (λ closed. let all = c.serve_over.ensures.closed closed in (all.0, all.3, all.4)) in
    keeps.within c.requires.within

pub returns-clause-beside : goal.returns-clause-beside
returns-clause-beside g c =
    let view = site_view g.S.Device.told g.S.Device.book g.S.Device.faults in
    let keeps = feed_call view g.S.Device.beside g.S.Device.beside_same g.S.Device.beside_then c.args.self.now.closed c.args.self.now.feed c.serve_over.new.self.feed (talk c.args.self.now c.args.gateway.now c.args.site.now c.args.said.now) (talk c.serve_over.new.self c.serve_over.new.responder c.serve_over.new.site c.serve_over.new.said)
    c.args.piece.now c.serve_over.result c.serve_over.ensures.answers (λ closed. let all = c.serve_over.ensures.closed closed in (all.0, all.3, all.4)) in
    keeps.beside_is

pub returns-clause-later : goal.returns-clause-later
returns-clause-later g c =
    let view = site_view g.S.Device.told g.S.Device.book g.S.Device.faults in
    let keeps = feed_call view g.S.Device.beside g.S.Device.beside_same g.S.Device.beside_then c.args.self.now.closed c.args.self.now.feed c.serve_over.new.self.feed (talk c.args.self.now c.args.gateway.now c.args.site.now c.args.said.now) (talk c.serve_over.new.self c.serve_over.new.responder c.serve_over.new.site c.serve_over.new.said)
    c.args.piece.now c.serve_over.result c.serve_over.ensures.answers (λ closed. let all = c.serve_over.ensures.closed closed in (all.0, all.3, all.4)) in
    keeps.later

pub returns-clause-cause : goal.returns-clause-cause
returns-clause-cause g c =
    let view = site_view g.S.Device.told g.S.Device.book g.S.Device.faults in
    let keeps = feed_call view g.S.Device.beside g.S.Device.beside_same g.S.Device.beside_then c.args.self.now.closed c.args.self.now.feed c.serve_over.new.self.feed (talk c.args.self.now c.args.gateway.now c.args.site.now c.args.said.now) (talk c.serve_over.new.self c.serve_over.new.responder c.serve_over.new.site c.serve_over.new.said)
    c.args.piece.now c.serve_over.result c.serve_over.ensures.answers (λ closed. let all = c.serve_over.ensures.closed closed in (all.0, all.3, all.4)) in
    cause_in c.serve_over.result keeps.rose

pub returns-clause-kept : goal.returns-clause-kept
returns-clause-kept g c =
    let view = site_view g.S.Device.told g.S.Device.book g.S.Device.faults in
    let keeps = feed_call view g.S.Device.beside g.S.Device.beside_same g.S.Device.beside_then c.args.self.now.closed c.args.self.now.feed c.serve_over.new.self.feed (talk c.args.self.now c.args.gateway.now c.args.site.now c.args.said.now) (talk c.serve_over.new.self c.serve_over.new.responder c.serve_over.new.site c.serve_over.new.said)
    c.args.piece.now c.serve_over.result c.serve_over.ensures.answers (λ closed. let all = c.serve_over.ensures.closed closed in (all.0, all.3, all.4)) in
    kept_in c.serve_over.result keeps.kept

pub returns-clause-still : goal.returns-clause-still
returns-clause-still g c =
    let view = site_view g.S.Device.told g.S.Device.book g.S.Device.faults in
    let keeps = feed_call view g.S.Device.beside g.S.Device.beside_same g.S.Device.beside_then c.args.self.now.closed c.args.self.now.feed c.serve_over.new.self.feed (talk c.args.self.now c.args.gateway.now c.args.site.now c.args.said.now) (talk c.serve_over.new.self c.serve_over.new.responder c.serve_over.new.site c.serve_over.new.said)
    c.args.piece.now c.serve_over.result c.serve_over.ensures.answers (λ closed. let all = c.serve_over.ensures.closed closed in (all.0, all.3, all.4)) in
    still_in c.serve_over.result keeps.kept
