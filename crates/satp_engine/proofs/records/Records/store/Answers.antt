use Rattle.std.proofs.Common.{◌≡◌, ◌∙◌, true, Err, ap, arith}
use Rattle.satp_journal.specs.Appending.{AppendAnswers}
use Rattle.satp_journal.specs.State.{Held}
use Rattle.satp_journal.specs.declared.fault.JournalFault.TheVariants.{Disk}
use Rattle.satp_log.specs.Folding.{text_with}
use Rattle.satp_sides.specs.Points.{stored}
use Rattle.satp_engine.proofs.Keeping.{coming-may, payload-fits}
use Rattle.satp_engine.proofs.Storing.{disk-failed, none-grows, stored-fails, stored-grows, stored-makes, stored-stands, takes-room}
use Rattle.satp_engine.proofs.records.Records.store.Given as Given
use Rattle.satp_engine.proofs.records.Records.store.Goals as goal
use Rattle.satp_engine.proofs.records.Records.store.Goals.{Joined-message}

pub append-requires-clause-most : goal.append-requires-clause-most
append-requires-clause-most g c =
    let old = c.args.self.now in
    let k = c.requires.stands.kept in
    (payload-fits old.journal.held.payloads old.log.setup k.0 (stored c.args.session c.args.rec (text_with c.args.message)) c.bytes.result.now k.1.journal (coming-may old old.log.setup k.0 c.args.session c.args.rec c.args.message k.1 c.requires.coming) (c.bytes.ensures ∙ c.requires.payload)).1

pub returns-in-Ok-clause-makes : goal.returns-in-Ok-clause-makes
returns-in-Ok-clause-makes g c =
    let old = c.args.self.now in
    stored-makes old c.append.new.self c.push.new.self (stored c.args.session c.args.rec (text_with c.args.message)) c.bytes.result.now (g.S.Device.told c.args.site.now) (g.S.Device.told c.append.new.disk) (g.S.Device.book c.args.site.now) (g.S.Device.book c.append.new.disk)
    (c.bytes.ensures ∙ c.requires.payload) c.requires.stands (λ setup xs k. coming-may old setup xs c.args.session c.args.rec c.args.message k c.requires.coming) c.in-Ok.ensures.ledger c.in-Ok.ensures.answers c.in-Ok.ensures.rests

pub returns-in-Ok-clause-stands : goal.returns-in-Ok-clause-stands
returns-in-Ok-clause-stands g c =
    let old = c.args.self.now in
    stored-stands old c.append.new.self c.push.new.self (stored c.args.session c.args.rec (text_with c.args.message)) c.bytes.result.now (g.S.Device.told c.args.site.now) (g.S.Device.told c.append.new.disk) (g.S.Device.book c.args.site.now) (g.S.Device.book c.append.new.disk)
    (c.bytes.ensures ∙ c.requires.payload) c.requires.stands (λ setup xs k. coming-may old setup xs c.args.session c.args.rec c.args.message k c.requires.coming) c.in-Ok.ensures.ledger c.in-Ok.ensures.answers
    (λ setup xs is k. (c.push.ensures.holds setup xs is k).1) c.push.ensures.setup c.in-Ok.ensures.fits

pub returns-in-Ok-clause-room : goal.returns-in-Ok-clause-room
returns-in-Ok-clause-room g c =
    let old = c.args.self.now in
    let k = c.requires.stands.kept in
    let fits = payload-fits old.journal.held.payloads old.log.setup k.0 (stored c.args.session c.args.rec (text_with c.args.message)) c.bytes.result.now k.1.journal (coming-may old old.log.setup k.0 c.args.session c.args.rec c.args.message k.1 c.requires.coming) (c.bytes.ensures ∙ c.requires.payload) in
    takes-room old.journal c.append.new.self c.bytes.result.now fits.1 c.in-Ok.ensures.records c.in-Ok.ensures.bytes

pub returns-in-Ok-clause-grows : goal.returns-in-Ok-clause-grows
returns-in-Ok-clause-grows g c =
    let old = c.args.self.now in
    stored-grows old c.append.new.self c.push.new.self (stored c.args.session c.args.rec (text_with c.args.message)) c.bytes.result.now (g.S.Device.told c.args.site.now) (g.S.Device.told c.append.new.disk) (g.S.Device.book c.args.site.now) (g.S.Device.book c.append.new.disk)
    (c.bytes.ensures ∙ c.requires.payload) c.requires.stands (λ setup xs k. coming-may old setup xs c.args.session c.args.rec c.args.message k c.requires.coming) c.in-Ok.ensures.ledger c.in-Ok.ensures.answers
    (λ setup xs is k. (c.push.ensures.holds setup xs is k).1)

-- the room is there, so memory isn't what it failed for
failed : (g : Given.Over) → (c : Joined-message g)
    → (c.in-Err.field-0 ≡ Disk) × (c.append.new.self.held ≡ record c.args.self.now.journal.held { broken = true })
    × AppendAnswers c.bytes.result.now c.args.self.now.journal.held c.append.new.self.held (g.S.Device.told c.args.site.now) (g.S.Device.told c.append.new.disk) (Err Disk)
failed g c =
    let old = c.args.self.now in
    let k = c.requires.stands.kept in
    let fits = payload-fits old.journal.held.payloads old.log.setup k.0 (stored c.args.session c.args.rec (text_with c.args.message)) c.bytes.result.now k.1.journal (coming-may old old.log.setup k.0 c.args.session c.args.rec c.args.message k.1 c.requires.coming) (c.bytes.ensures ∙ c.requires.payload) in
    disk-failed c.bytes.result.now old.journal.held c.append.new.self.held (g.S.Device.told c.args.site.now) (g.S.Device.told c.append.new.disk) c.in-Err.field-0 old.journal.spare_records old.journal.spare_bytes
    c.requires.stands.whole c.requires.room.0 (omega (arith, fits.1, c.requires.room.1)) c.in-Err.ensures.memory c.in-Err.ensures.answers

pub returns-in-Err-clause-fails : goal.returns-in-Err-clause-fails
returns-in-Err-clause-fails g c =
    let old = c.args.self.now in
    stored-fails old c.append.new.self c.args.self.now.log (stored c.args.session c.args.rec (text_with c.args.message)) c.bytes.result.now (g.S.Device.told c.args.site.now) (g.S.Device.told c.append.new.disk) (g.S.Device.book c.args.site.now) (g.S.Device.book c.append.new.disk)
    (c.bytes.ensures ∙ c.requires.payload) c.requires.stands (λ setup xs k. coming-may old setup xs c.args.session c.args.rec c.args.message k c.requires.coming) c.in-Err.ensures.ledger (failed g c).2

pub returns-in-Err-clause-grows : goal.returns-in-Err-clause-grows
returns-in-Err-clause-grows g c = none-grows c.args.session c.args.self.now c.append.new.self (ap (λ (h : Held). h.payloads) (failed g c).1)

pub returns-in-Err-clause-cause : goal.returns-in-Err-clause-cause
returns-in-Err-clause-cause g c = record { later = c.in-Err.ensures.later; kept = tt; failed = c.in-Err.ensures.cause (failed g c).0 }
