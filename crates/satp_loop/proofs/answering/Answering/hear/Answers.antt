use Rattle.std.proofs.Common.{◌∙◌, ap, subst}
use Rattle.std.specs.Prelude.{Result, Err}
use Rattle.satp_serve.specs.Feeding.{FeedAnswers, talk}
use Rattle.satp_serve.specs.GatewayReplies.{RepliesAt, site_view}
use Rattle.satp_serve.specs.declared.turn.ServeFault.{ServeFault}
use Rattle.satp_serve.specs.declared.turn.Turn.{Turn}
use Rattle.satp_loop.specs.Peers.{PeerReplies}
use Rattle.satp_loop.proofs.PeerKeeping.{call_goes, still_open}
use Rattle.satp_loop.proofs.answering.Answering.hear.Goals as goal

pub returns-in-Ok-clause-within : goal.returns-in-Ok-clause-within
returns-in-Ok-clause-within g c =
    let view = site_view g.S.Device.told g.S.Device.book g.S.Device.faults in
    let goes = call_goes view g.S.Device.beside g.S.Device.beside_same g.S.Device.beside_then c.args.self.now.served.closed c.args.self.now.served.feed c.serve_over.new.self.feed
    (talk c.args.self.now.served c.args.peer.now c.args.site.now c.args.self.now.answers) (talk c.serve_over.new.self c.serve_over.new.responder c.serve_over.new.site c.serve_over.new.said) c.args.piece.now c.serve_over.result
    c.serve_over.ensures.answers (λ closed. let all = c.serve_over.ensures.closed closed in (all.3, all.4)) in
    goes.1 c.requires.within

pub returns-in-Ok-clause-beside : goal.returns-in-Ok-clause-beside
returns-in-Ok-clause-beside g c =
    let view = site_view g.S.Device.told g.S.Device.book g.S.Device.faults in
    let goes = call_goes view g.S.Device.beside g.S.Device.beside_same g.S.Device.beside_then c.args.self.now.served.closed c.args.self.now.served.feed c.serve_over.new.self.feed
    (talk c.args.self.now.served c.args.peer.now c.args.site.now c.args.self.now.answers) (talk c.serve_over.new.self c.serve_over.new.responder c.serve_over.new.site c.serve_over.new.said) c.args.piece.now c.serve_over.result
    c.serve_over.ensures.answers (λ closed. let all = c.serve_over.ensures.closed closed in (all.3, all.4)) in
    goes.0

pub returns-in-Err-Site-clause-beside : goal.returns-in-Err-Site-clause-beside
returns-in-Err-Site-clause-beside g c =
    let view = site_view g.S.Device.told g.S.Device.book g.S.Device.faults in
    let goes = call_goes view g.S.Device.beside g.S.Device.beside_same g.S.Device.beside_then c.args.self.now.served.closed c.args.self.now.served.feed c.serve_over.new.self.feed
    (talk c.args.self.now.served c.args.peer.now c.args.site.now c.args.self.now.answers) (talk c.serve_over.new.self c.serve_over.new.responder c.serve_over.new.site c.serve_over.new.said) c.args.piece.now c.serve_over.result
    c.serve_over.ensures.answers (λ closed. let all = c.serve_over.ensures.closed closed in (all.3, all.4)) in
    goes.0

pub returns-in-Err-Memory-clause-within : goal.returns-in-Err-Memory-clause-within
returns-in-Err-Memory-clause-within g c =
    let view = site_view g.S.Device.told g.S.Device.book g.S.Device.faults in
    let goes = call_goes view g.S.Device.beside g.S.Device.beside_same g.S.Device.beside_then c.args.self.now.served.closed c.args.self.now.served.feed c.serve_over.new.self.feed
    (talk c.args.self.now.served c.args.peer.now c.args.site.now c.args.self.now.answers) (talk c.serve_over.new.self c.serve_over.new.responder c.serve_over.new.site c.serve_over.new.said) c.args.piece.now c.serve_over.result
    c.serve_over.ensures.answers (λ closed. let all = c.serve_over.ensures.closed closed in (all.3, all.4)) in
    goes.1 c.requires.within

pub returns-in-Err-Memory-clause-beside : goal.returns-in-Err-Memory-clause-beside
returns-in-Err-Memory-clause-beside g c =
    let view = site_view g.S.Device.told g.S.Device.book g.S.Device.faults in
    let goes = call_goes view g.S.Device.beside g.S.Device.beside_same g.S.Device.beside_then c.args.self.now.served.closed c.args.self.now.served.feed c.serve_over.new.self.feed
    (talk c.args.self.now.served c.args.peer.now c.args.site.now c.args.self.now.answers) (talk c.serve_over.new.self c.serve_over.new.responder c.serve_over.new.site c.serve_over.new.said) c.args.piece.now c.serve_over.result
    c.serve_over.ensures.answers (λ closed. let all = c.serve_over.ensures.closed closed in (all.3, all.4)) in
    goes.0

pub returns-in-Err-Memory-clause-hears : goal.returns-in-Err-Memory-clause-hears
returns-in-Err-Memory-clause-hears g c =
    let view = site_view g.S.Device.told g.S.Device.book g.S.Device.faults in
    let is = c.in-Err-Memory.is ∙ ap Err c.in-Err-Memory.field-0-is in
    let unclosed = still_open c.args.self.now.served.closed c.serve_over.result (λ closed. (c.serve_over.ensures.closed closed).0) is in (
      unclosed,
      subst (λ (r : Result Turn ServeFault). FeedAnswers (PeerReplies (RepliesAt view g.S.Device.beside)) c.args.self.now.served.feed c.serve_over.new.self.feed
          (talk c.args.self.now.served c.args.peer.now c.args.site.now c.args.self.now.answers) (talk c.serve_over.new.self c.serve_over.new.responder c.serve_over.new.site c.serve_over.new.said) c.args.piece.now r) is
          (c.serve_over.ensures.answers unclosed),
    )
