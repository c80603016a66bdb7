use Rattle.std.proofs.Common.{◌∙◌, ℕ, List, length, take, drop, Some, ap, sym}
use Rattle.satp_serve.specs.GatewayReplies.{RepliesAt, site_view}
use Rattle.satp_loop.specs.Following.{answers_of}
use Rattle.satp_loop.specs.Lines.{Lining, audible, traffic_of}
use Rattle.satp_loop.specs.Peers.{PeerReplies}
use Rattle.satp_loop.proofs.Stepping.{reads_follows}
use Rattle.satp_loop.proofs.Telling.{hears_told}
use Rattle.satp_loop.proofs.loop_wire.LoopWireWire.read.Goals as goal

pub returns-in-Some-clause-ok : goal.returns-in-Some-clause-ok
returns-in-Some-clause-ok g c =
    let line = c.args.self.now.line in
    let answers = answers_of c.args.self.now.answering in
    let there = c.answers.ensures ∙ sym (ap answers_of c.in-Some.is) in
    let bytes = c.hear.ensures.bytes ∙ ap (λ (l : List ℕ). take c.hear.result (drop line.place l)) there in
    ap (λ (l : Lining). Some (traffic_of l answers)) c.hear.ensures.heard ∙ ap Some (hears_told line answers c.hear.new.into c.hear.result _ c.requires bytes)

pub returns-in-Some-clause-beside : goal.returns-in-Some-clause-beside
returns-in-Some-clause-beside g c =
    let old = c.args.self.now in
    let there = c.answers.ensures ∙ sym (ap answers_of c.in-Some.is) in
    let count = c.hear.ensures.count ∙ ap (λ (l : List ℕ). audible old.line l (length c.hear.new.into)) there in
    reads_follows (PeerReplies (RepliesAt (site_view g.S.Device.told g.S.Device.book g.S.Device.faults) g.S.Device.beside)) g.S.Device.beside c.hear.result (length c.hear.new.into) old.line c.hear.new.self old.answering old.peer old.site
    (g.S.Device.beside_same old.site) c.requires count c.hear.ensures.heard

pub returns-in-None-clause-beside : goal.returns-in-None-clause-beside
returns-in-None-clause-beside g c =
    let old = c.args.self.now in
    let there = sym (ap answers_of c.in-None.is) in
    let count = c.hear-in-None.ensures.count ∙ ap (λ (l : List ℕ). audible old.line l (length c.hear-in-None.new.into)) there in
    reads_follows (PeerReplies (RepliesAt (site_view g.S.Device.told g.S.Device.book g.S.Device.faults) g.S.Device.beside)) g.S.Device.beside c.hear-in-None.result (length c.hear-in-None.new.into) old.line c.hear-in-None.new.self old.answering old.peer old.site
    (g.S.Device.beside_same old.site) c.requires count c.hear-in-None.ensures.heard
