use Rattle.satp_log.specs.Journals.{party_of}
use Rattle.satp_engine.specs.Turning.Comes.{Appended}
use Rattle.satp_engine.proofs.Turns.{note-broke, note-turn}
use Rattle.satp_engine.proofs.records.Records.append_note.Goals as goal
use Rattle.satp_points.specs.States.{tells}

pub returns-in-Ok-clause-answers : goal.returns-in-Ok-clause-answers
returns-in-Ok-clause-answers g c =
    let p = c.requires.planned in
    let old = c.args.self.now in
    let due = c.requires.due p.state p.there in (
      c.args.rec,
      p.is_note,
      record {
        state = p.state;
        was = p.there;
        comes = Appended c.args.rec due;
        after = c.in-Ok.ensures.state p.state p.there;
        done = note-turn (party_of old.log.setup) c.args.session p.state old.journal.held c.note.new.self.journal.held (tells (g.S.Device.told c.args.site.now) (g.S.Device.book c.args.site.now)) (tells (g.S.Device.told c.note.new.site) (g.S.Device.book c.note.new.site)) c.args.rec p.is_note due c.in-Ok.ensures.makes;
      },
    )

pub returns-in-Err-clause-answers : goal.returns-in-Err-clause-answers
returns-in-Err-clause-answers g c =
    let p = c.requires.planned in
    let old = c.args.self.now in
    let due = c.requires.due p.state p.there in
    (p.state, p.there, note-broke (party_of old.log.setup) c.args.session p.state old.journal.held c.note.new.self.journal.held (tells (g.S.Device.told c.args.site.now) (g.S.Device.book c.args.site.now)) (tells (g.S.Device.told c.note.new.site) (g.S.Device.book c.note.new.site)) c.args.rec p.is_note due c.in-Err.ensures.fails)
