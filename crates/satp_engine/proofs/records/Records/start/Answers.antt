use Rattle.std.proofs.Common.{None, Some, refl, sym, subst}
use Rattle.std.specs.Prelude.{IfOk}
use Rattle.satp_base.specs.Canonical.{kind_of}
use Rattle.satp_base.specs.declared.record.Rec.TheVariants.{Took}
use Rattle.satp_log.specs.Journals.{party_of}
use Rattle.satp_points.specs.Decisions.{FirstMayCome}
use Rattle.satp_points.specs.declared.decision.First.TheVariants as first
use Rattle.satp_engine.specs.Starting.{IsRecordStart, IsSessionStart, Starts}
use Rattle.satp_engine.specs.declared.start.Start.TheVariants as start
use Rattle.satp_engine.proofs.StartLemmas.{begins-formed, begins-new, note-formed, note-starts, nothing-starts, ok-then, session-starts, taken-formed, taken-starts}
use Rattle.satp_engine.proofs.records.Records.start.Goals as goal

pub returns-in-Nothing-clause-starts : goal.returns-in-Nothing-clause-starts
returns-in-Nothing-clause-starts c =
    let r = c.args.self.now in
    let k = c.requires.kept in
    let m = subst (FirstMayCome (party_of r.log.setup) c.args.session k.0) c.in-Nothing.is (c.requires.may r.log.setup k.0 k.1) in
    subst (λ f. Starts r.log c.args.session f start.Nothing) (sym c.in-Nothing.is) (nothing-starts r c.args.session k m)

pub start_note-requires : goal.start_note-requires
start_note-requires c =
    let r = c.args.self.now in
    let k = c.requires.kept in
    note-formed r c.args.session k c.in-Note.rec (subst (FirstMayCome (party_of r.log.setup) c.args.session k.0) c.in-Note.is (c.requires.may r.log.setup k.0 k.1))

pub returns-in-Note-clause-starts : goal.returns-in-Note-clause-starts
returns-in-Note-clause-starts c =
    let r = c.args.self.now in
    let k = c.requires.kept in
    let s = c.args.session in
    let m = subst (FirstMayCome (party_of r.log.setup) s k.0) c.in-Note.is (c.requires.may r.log.setup k.0 k.1) in
    subst (λ f. IfOk c.start_note.result (Starts r.log s f)) (sym c.in-Note.is)
    (ok-then c.start_note.result (IsRecordStart s c.in-Note.rec None) (Starts r.log s (first.Note c.in-Note.rec)) (note-starts r s k c.in-Note.rec m) c.start_note.ensures)

pub start_taken-requires : goal.start_taken-requires
start_taken-requires c =
    let r = c.args.self.now in
    let k = c.requires.kept in
    taken-formed r c.args.session k c.in-Takes.signed (subst (FirstMayCome (party_of r.log.setup) c.args.session k.0) c.in-Takes.is (c.requires.may r.log.setup k.0 k.1))

pub returns-in-Takes-clause-starts : goal.returns-in-Takes-clause-starts
returns-in-Takes-clause-starts c =
    let r = c.args.self.now in
    let k = c.requires.kept in
    let s = c.args.session in
    let signed = c.in-Takes.signed in
    let m = subst (FirstMayCome (party_of r.log.setup) s k.0) c.in-Takes.is (c.requires.may r.log.setup k.0 k.1) in
    subst (λ f. IfOk c.start_taken.result (Starts r.log s f)) (sym c.in-Takes.is)
    (ok-then c.start_taken.result (IsRecordStart s (Took (kind_of signed.message.body)) (Some signed)) (Starts r.log s (first.Takes signed)) (taken-starts r s k signed m) c.start_taken.ensures)

pub start_session-requires-clause-new : goal.start_session-requires-clause-new
start_session-requires-clause-new c =
    let r = c.args.self.now in
    let k = c.requires.kept in
    begins-new r c.args.session k c.in-Begins.role c.in-Begins.terms (subst (FirstMayCome (party_of r.log.setup) c.args.session k.0) c.in-Begins.is (c.requires.may r.log.setup k.0 k.1))

pub start_session-requires-clause-formed : goal.start_session-requires-clause-formed
start_session-requires-clause-formed c =
    let r = c.args.self.now in
    let k = c.requires.kept in
    begins-formed r c.args.session k c.in-Begins.role c.in-Begins.terms (subst (FirstMayCome (party_of r.log.setup) c.args.session k.0) c.in-Begins.is (c.requires.may r.log.setup k.0 k.1))

pub returns-in-Begins-clause-starts : goal.returns-in-Begins-clause-starts
returns-in-Begins-clause-starts c =
    let s = c.args.session in
    let role = c.in-Begins.role in
    let terms = c.in-Begins.terms in
    let log = c.start_session.new.self.log in
    subst (λ f. IfOk c.start_session.result (Starts log s f)) (sym c.in-Begins.is)
    (ok-then c.start_session.result (IsSessionStart log s role terms) (Starts log s (first.Begins role terms)) (session-starts log s (first.Begins role terms) role terms refl) c.start_session.ensures.starts)
