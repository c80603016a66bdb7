use Rattle.satp_points.specs.States.{tells}
use Rattle.satp_engine.proofs.Operating.{acted-stands, not-operated, operated, operated-broke, planned-after}
use Rattle.satp_engine.proofs.records.Records.operate.Goals as goal

pub note-requires-clause-stands : goal.note-requires-clause-stands
note-requires-clause-stands g c =
    let told = g.S.Device.told in
    let book = g.S.Device.book in
    acted-stands c.args.self.now c.args.session c.args.op c.args.plan.now c.args.view.now c.requires.planned (told c.args.site.now) (told c.act.new.self) (book c.args.site.now) (book c.act.new.self) c.in-Ok.answer c.in-Ok.ensures.told c.requires.stands

pub note-requires-clause-planned : goal.note-requires-clause-planned
note-requires-clause-planned g c = planned-after c.args.self.now c.args.session c.args.op c.args.plan.now c.args.view.now c.requires.planned c.in-Ok.answer c.after.result c.in-Ok.ensures.answer c.after.ensures

pub returns-in-Ok-note-clause-answers : goal.returns-in-Ok-note-clause-answers
returns-in-Ok-note-clause-answers g c =
    let told = g.S.Device.told in
    let book = g.S.Device.book in
    let p = planned-after c.args.self.now c.args.session c.args.op c.args.plan.now c.args.view.now c.requires.planned c.in-Ok.answer c.after.result c.in-Ok.ensures.answer c.after.ensures in (
      c.after.result,
      p.is_note,
      operated c.args.self.now c.args.session c.args.op c.args.plan.now c.args.view.now c.requires.planned (told c.args.site.now) (told c.act.new.self) (book c.args.site.now) (book c.act.new.self) c.in-Ok.answer c.after.result c.in-Ok.ensures.answer c.after.ensures c.in-Ok.ensures.told
          (g.S.Device.keeps_model c.act.new.self) c.note.new.self (tells (told c.note.new.site) (book c.note.new.site)) c.in-Ok-note.ensures.makes c.in-Ok-note.ensures.state,
    )

pub returns-in-Ok-note-clause-beside : goal.returns-in-Ok-note-clause-beside
returns-in-Ok-note-clause-beside g c = g.S.Device.beside_then c.args.site.now c.act.new.self c.note.new.site c.in-Ok.ensures.beside c.in-Ok-note.ensures.beside

pub returns-in-Err-note-clause-answers : goal.returns-in-Err-note-clause-answers
returns-in-Err-note-clause-answers g c =
    let told = g.S.Device.told in
    let book = g.S.Device.book in
    let p = c.requires.planned in (
      p.state,
      p.there,
      operated-broke c.args.self.now c.args.session c.args.op c.args.plan.now c.args.view.now p (told c.args.site.now) (told c.act.new.self) (book c.args.site.now) (book c.act.new.self) c.in-Ok.answer c.after.result c.after.ensures c.in-Ok.ensures.told
          (g.S.Device.keeps_model c.act.new.self) (tells (told c.note.new.site) (book c.note.new.site)) c.in-Err-note.ensures.fails,
    )

pub returns-in-Err-note-clause-beside : goal.returns-in-Err-note-clause-beside
returns-in-Err-note-clause-beside g c = g.S.Device.beside_then c.args.site.now c.act.new.self c.note.new.site c.in-Ok.ensures.beside c.in-Err-note.ensures.beside

pub returns-in-Err-clause-answers : goal.returns-in-Err-clause-answers
returns-in-Err-clause-answers g c =
    let told = g.S.Device.told in
    let book = g.S.Device.book in
    let p = c.requires.planned in
    (p.state, p.there, not-operated c.args.self.now c.args.session c.args.op c.args.plan.now c.args.view.now p (told c.args.site.now) (told c.act.new.self) (book c.args.site.now) (book c.act.new.self) c.in-Err.field-0 c.in-Err.ensures.told)
