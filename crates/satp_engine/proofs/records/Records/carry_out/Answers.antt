use Rattle.std.proofs.Common.{◌≡◌, true, false}
use Rattle.satp_points.specs.States.{tells}
use Rattle.satp_engine.proofs.DoneLemmas.{Roomier, all-broke, all-said, all-stood, all-unsaid, grows-some, none-done, some-roomier, stands-roomier}
use Rattle.satp_engine.proofs.records.Records.carry_out.Goals as goal

pub returns-in_default-clause-done : goal.returns-in_default-clause-done
returns-in_default-clause-done g c =
    let site = tells (g.S.Device.told c.args.site.now) (g.S.Device.book c.args.site.now) in
    none-done c.args.session c.args.first c.args.replying c.args.self.now c.prepare.new.self site c.requires.stands.whole c.in_default.ensures.held

pub execute-requires-clause-stands : goal.execute-requires-clause-stands
execute-requires-clause-stands g c =
    let same : Roomier c.args.self.now c.prepare.new.self = record { held = c.prepare.ensures.held; log = c.prepare.ensures.log } in
    stands-roomier c.args.self.now c.prepare.new.self same (g.S.Device.told c.args.site.now) c.requires.stands

pub reply-requires-clause-stands : goal.reply-requires-clause-stands
reply-requires-clause-stands g c =
    let before = tells (g.S.Device.told c.args.site.now) (g.S.Device.book c.args.site.now) in
    let site = tells (g.S.Device.told c.execute.new.site) (g.S.Device.book c.execute.new.site) in
    let same : Roomier c.args.self.now c.prepare.new.self = record { held = c.prepare.ensures.held; log = c.prepare.ensures.log } in
    all-stood c.args.session c.args.first c.args.replying c.args.self.now c.prepare.new.self c.execute.new.self before site c.in-Ok.prepared same (g.S.Device.told c.args.site.now) c.requires.stands c.requires.ready c.in-Ok.ensures.prepared c.execute.ensures.grows
    c.in-Ok-execute.made c.in-Ok-execute.ensures.answers c.execute.ensures.setup

pub returns-in-Ok-reply-clause-done : goal.returns-in-Ok-reply-clause-done
returns-in-Ok-reply-clause-done g c =
    let before = tells (g.S.Device.told c.args.site.now) (g.S.Device.book c.args.site.now) in
    let site = tells (g.S.Device.told c.execute.new.site) (g.S.Device.book c.execute.new.site) in
    let same : Roomier c.args.self.now c.prepare.new.self = record { held = c.prepare.ensures.held; log = c.prepare.ensures.log } in
    all-said c.args.session c.args.first c.args.replying c.args.self.now c.prepare.new.self c.execute.new.self before site c.in-Ok.prepared same (g.S.Device.told c.args.site.now) c.requires.stands c.requires.ready c.in-Ok.ensures.prepared c.execute.ensures.grows
    c.in-Ok-execute.made c.in-Ok-execute.ensures.answers c.execute.ensures.setup c.in-Ok-execute.ensures.stands.whole c.in-Ok-reply.reply c.in-Ok-reply.ensures.reply

pub returns-in-Err-reply-clause-done : goal.returns-in-Err-reply-clause-done
returns-in-Err-reply-clause-done g c =
    let before = tells (g.S.Device.told c.args.site.now) (g.S.Device.book c.args.site.now) in
    let site = tells (g.S.Device.told c.execute.new.site) (g.S.Device.book c.execute.new.site) in
    let same : Roomier c.args.self.now c.prepare.new.self = record { held = c.prepare.ensures.held; log = c.prepare.ensures.log } in
    all-unsaid c.args.session c.args.first c.args.replying c.args.self.now c.prepare.new.self c.execute.new.self before site c.in-Ok.prepared same (g.S.Device.told c.args.site.now) c.requires.stands c.requires.ready c.in-Ok.ensures.prepared c.execute.ensures.grows
    c.in-Ok-execute.made c.in-Ok-execute.ensures.answers c.execute.ensures.setup c.in-Ok-execute.ensures.stands.whole c.in-Err-reply.ensures.written

pub returns-in-Err-clause-done : goal.returns-in-Err-clause-done
returns-in-Err-clause-done g c =
    let before = tells (g.S.Device.told c.args.site.now) (g.S.Device.book c.args.site.now) in
    let site = tells (g.S.Device.told c.execute.new.site) (g.S.Device.book c.execute.new.site) in
    let same : Roomier c.args.self.now c.prepare.new.self = record { held = c.prepare.ensures.held; log = c.prepare.ensures.log } in
    all-broke c.args.session c.args.first c.args.replying c.args.self.now c.prepare.new.self c.execute.new.self before site c.in-Ok.prepared same (g.S.Device.told c.args.site.now) c.requires.stands c.requires.ready c.in-Ok.ensures.prepared c.execute.ensures.grows
    c.in-Err.ensures.answers

pub returns-in_default-clause-stands : goal.returns-in_default-clause-stands
returns-in_default-clause-stands g c =
    let same : Roomier c.args.self.now c.prepare.new.self = record { held = c.prepare.ensures.held; log = c.prepare.ensures.log } in
    let stands = stands-roomier c.args.self.now c.prepare.new.self same (g.S.Device.told c.args.site.now) c.requires.stands in
    (stands.kept, λ _. stands)

pub returns-in-Ok-reply-clause-stands : goal.returns-in-Ok-reply-clause-stands
returns-in-Ok-reply-clause-stands g c = (c.in-Ok-execute.ensures.stands.kept, λ _. c.in-Ok-execute.ensures.stands)

pub returns-in-Err-reply-clause-stands : goal.returns-in-Err-reply-clause-stands
returns-in-Err-reply-clause-stands g c = (c.in-Ok-execute.ensures.stands.kept, λ _. c.in-Ok-execute.ensures.stands)

pub returns-in-Err-clause-stands : goal.returns-in-Err-clause-stands
returns-in-Err-clause-stands g c =
    let same : Roomier c.args.self.now c.prepare.new.self = record { held = c.prepare.ensures.held; log = c.prepare.ensures.log } in
    let kept = grows-some c.args.session c.prepare.new.self c.execute.new.self (some-roomier c.args.self.now c.prepare.new.self same c.requires.stands.kept) c.execute.ensures.grows c.execute.ensures.setup in
    (kept, λ (e : true ≡ false). absurd (cc e))
