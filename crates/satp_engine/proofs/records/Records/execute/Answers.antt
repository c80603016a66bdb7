use Rattle.std.proofs.Common.{sym, subst}
use Rattle.satp_plan.specs.Plans.{IsPlanOf}
use Rattle.satp_records.specs.declared.stored.Setup.{Setup}
use Rattle.satp_points.specs.States.{tells}
use Rattle.satp_engine.proofs.Carrying.{executed, start-broke}
use Rattle.satp_engine.proofs.Turns.{grows-then}
use Rattle.satp_engine.proofs.records.Records.execute.Goals as goal

pub returns-in-Err-clause-answers : goal.returns-in-Err-clause-answers
returns-in-Err-clause-answers g c =
    let told = g.S.Device.told in
    let book = g.S.Device.book in
    let p = c.requires.planned in
    start-broke c.args.session c.args.start c.args.self.now (tells (told c.args.site.now) (book c.args.site.now)) p.after p.fits c.requires.stands.kept (tells (told c.store_start.new.site) (book c.store_start.new.site)) c.in-Err.ensures.fails

pub work-requires-clause-room : goal.work-requires-clause-room
work-requires-clause-room g c = c.in-Ok.ensures.room 3 c.requires.room

pub work-requires-clause-planned : goal.work-requires-clause-planned
work-requires-clause-planned g c =
    let p = c.requires.planned in
    record {
      state = p.after;
      there = c.in-Ok.ensures.state p.after p.fits;
      covers = p.covers;
      made = subst (λ (x : Setup). IsPlanOf c.args.session p.after.chain x.key c.args.plan) (sym c.in-Ok.ensures.setup) p.made;
    }

pub returns-in-Ok-clause-answers : goal.returns-in-Ok-clause-answers
returns-in-Ok-clause-answers g c =
    let told = g.S.Device.told in
    let book = g.S.Device.book in
    let p = c.requires.planned in
    executed c.args.session c.args.start c.args.self.now (tells (told c.args.site.now) (book c.args.site.now)) p.after p.fits c.requires.stands.kept c.store_start.new.self (tells (told c.store_start.new.site) (book c.store_start.new.site)) c.in-Ok.ensures.setup
    (c.in-Ok.ensures.state p.after p.fits) c.in-Ok.ensures.makes c.work.new.self (tells (told c.work.new.site) (book c.work.new.site)) c.work.result c.work.ensures.answers

pub returns-in-Ok-clause-grows : goal.returns-in-Ok-clause-grows
returns-in-Ok-clause-grows g c = grows-then c.args.session c.args.self.now c.store_start.new.self c.work.new.self c.in-Ok.ensures.grows c.work.ensures.grows

pub returns-in-Ok-clause-beside : goal.returns-in-Ok-clause-beside
returns-in-Ok-clause-beside g c = g.S.Device.beside_then c.args.site.now c.store_start.new.site c.work.new.site c.in-Ok.ensures.beside c.work.ensures.beside
