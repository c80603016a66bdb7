use Rattle.std.proofs.Common.{◌∙◌}
use Rattle.satp_base.specs.declared.record.Rec.TheVariants.{Made}
use Rattle.satp_log.specs.Journals.{party_of}
use Rattle.satp_points.specs.States.{tells}
use Rattle.satp_engine.specs.Turning.Comes.{Appended}
use Rattle.satp_engine.proofs.Making.{making-comes, making-payload, making-text}
use Rattle.satp_engine.proofs.Turns.{append-broke, made-turn}
use Rattle.satp_engine.proofs.records.Records.make.Goals as goal

pub store-requires-clause-coming : goal.store-requires-clause-coming
store-requires-clause-coming g c =
    let old = c.args.self.now in
    let p = c.requires.planned in
    making-comes old c.args.session c.args.plan.now c.args.way c.args.kind c.requires.stands.kept p c.in-Some.making (c.in-Some.ensures.making c.args.session p.state.chain old.log.setup.key p.made) (c.in-Some.ensures.taken.4 ∙ c.made_part.ensures)

pub store-requires-clause-payload : goal.store-requires-clause-payload
store-requires-clause-payload g c =
    let old = c.args.self.now in
    let p = c.requires.planned in
    making-payload old c.args.session c.args.plan.now c.args.way c.args.kind c.requires.stands.kept p c.in-Some.making (c.in-Some.ensures.making c.args.session p.state.chain old.log.setup.key p.made) (c.in-Some.ensures.taken.4 ∙ c.made_part.ensures)

pub returns-in-Ok-clause-answers : goal.returns-in-Ok-clause-answers
returns-in-Ok-clause-answers g c =
    let old = c.args.self.now in
    let p = c.requires.planned in
    let m = c.in-Some.making in
    let is = c.in-Some.ensures.making c.args.session p.state.chain old.log.setup.key p.made in
    let text = making-text old c.args.session c.args.plan.now c.args.way c.args.kind c.requires.stands.kept p m is (c.in-Some.ensures.taken.4 ∙ c.made_part.ensures) in (
      c.args.kind,
      m.signed,
      is.reply,
      record {
        state = p.state;
        was = p.there;
        comes = Appended (Made c.args.kind) p.due;
        after = c.in-Ok.ensures.state p.state p.there;
        done = made-turn (party_of old.log.setup) c.args.session p.state old.journal.held c.store.new.self.journal.held (tells (g.S.Device.told c.args.site.now) (g.S.Device.book c.args.site.now)) (tells (g.S.Device.told c.store.new.site) (g.S.Device.book c.store.new.site)) c.args.kind m.signed p.due text c.in-Ok.ensures.makes;
      },
    )

pub returns-clause-answers : goal.returns-clause-answers
returns-clause-answers g c =
    let old = c.args.self.now in
    let p = c.requires.planned in
    let m = c.in-Some.making in
    let is = c.in-Some.ensures.making c.args.session p.state.chain old.log.setup.key p.made in
    let text = making-text old c.args.session c.args.plan.now c.args.way c.args.kind c.requires.stands.kept p m is (c.in-Some.ensures.taken.4 ∙ c.made_part.ensures) in
    (p.state, p.there, append-broke (party_of old.log.setup) c.args.session p.state old.journal.held c.store.new.self.journal.held (tells (g.S.Device.told c.args.site.now) (g.S.Device.book c.args.site.now)) (tells (g.S.Device.told c.store.new.site) (g.S.Device.book c.store.new.site)) (Made c.args.kind) m.signed.text p.due text c.in-Err.ensures.fails)
