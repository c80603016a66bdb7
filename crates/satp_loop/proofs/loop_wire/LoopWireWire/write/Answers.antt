use Rattle.std.proofs.Common.{◌∙◌, ℕ, ◌-◌, length, take, ap}
use Rattle.satp_serve.specs.GatewayReplies.{RepliesAt, site_view}
use Rattle.satp_loop.specs.Lines.{Lining, wanting}
use Rattle.satp_loop.specs.Peers.{PeerReplies}
use Rattle.satp_loop.proofs.Stepping.{not_said_follows, said_follows, unserved_follows}
use Rattle.satp_loop.proofs.Telling.{back_is}
use Rattle.satp_loop.proofs.loop_wire.LoopWireWire.write.Goals as goal

pub returns-in_err-say-clause-beside : goal.returns-in_err-say-clause-beside
returns-in_err-say-clause-beside g c =
    let old = c.args.self.now in
    not_said_follows (PeerReplies (RepliesAt (site_view g.S.Device.told g.S.Device.book g.S.Device.faults) g.S.Device.beside)) g.S.Device.beside c.args.piece.now old.line c.say.new.self c.requires c.in_err-say.ensures.err old.answering old.peer old.site (g.S.Device.beside_same old.site)

pub returns-in-Ok-clause-beside : goal.returns-in-Ok-clause-beside
returns-in-Ok-clause-beside g c =
    let old = c.args.self.now in
    let new = c.hand_over.new.self in
    said_follows (PeerReplies (RepliesAt (site_view g.S.Device.told g.S.Device.book g.S.Device.faults) g.S.Device.beside)) g.S.Device.beside _ ℕ c.in-Ok.field-0 c.args.piece.now old.line c.say.new.self new.line old.answering old.peer old.site new.answering new.peer new.site
    c.requires c.in_ok-say.ensures.ok c.hand_over.ensures.line c.in-Ok.ensures.hands c.hand_over.ensures.beside

pub returns-in-Err-clause-beside : goal.returns-in-Err-clause-beside
returns-in-Err-clause-beside g c =
    let old = c.args.self.now in
    let new = c.hand_over.new.self in
    let piece = c.args.piece.now in
    let back = c.take_back.ensures.back ∙ (ap (λ (l : Lining). wanting (record l { said = take (length l.said - length piece) l.said })) (c.hand_over.ensures.line ∙ c.in_ok-say.ensures.ok) ∙ back_is old.line piece) in
    unserved_follows (PeerReplies (RepliesAt (site_view g.S.Device.told g.S.Device.book g.S.Device.faults) g.S.Device.beside)) g.S.Device.beside ℕ _ c.in-Err.field-0 piece old.line c.say.new.self c.take_back.new.self old.answering old.peer old.site new.answering new.peer new.site
    c.requires c.in_ok-say.ensures.ok back c.in-Err.ensures.hands c.hand_over.ensures.beside
