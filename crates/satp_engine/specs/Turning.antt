-- The due work of a session, turn by turn.
use Rattle.std.specs.Prelude.{◌≡◌, ℕ, zero, suc, true, false, [], ◌∷◌, ◌++◌, Option, Some, None, Result, Ok, Err}
use Rattle.satp_base.specs.Acts.{MayAnswer}
use Rattle.satp_base.specs.Calls.{Told}
use Rattle.satp_base.specs.Roles.{after_of, next_of}
use Rattle.satp_base.specs.Tales.{is_whole, maker}
use Rattle.satp_base.specs.Views.{push}
use Rattle.satp_base.specs.declared.ledger.Answer.{Answer}
use Rattle.satp_base.specs.declared.ledger.LedgerOp.{LedgerOp}
use Rattle.satp_base.specs.declared.message.Kind.{Kind}
use Rattle.satp_base.specs.declared.record.Next.TheVariants.{Append, Act}
use Rattle.satp_base.specs.declared.record.Rec.{Rec}
use Rattle.satp_base.specs.declared.record.Rec.TheVariants.{Made}
use Rattle.satp_base.specs.declared.session.SessionId.{SessionId}
use Rattle.satp_base.specs.declared.site.SiteFault.{SiteFault}
use Rattle.satp_base.specs.declared.view.View.{View}
use Rattle.satp_chain.specs.declared.signed.Signed.{Signed}
use Rattle.satp_journal.specs.State.{Held}
use Rattle.satp_log.specs.Folding.{State, state_with}
use Rattle.satp_log.specs.Journals.{party_of}
use Rattle.satp_records.specs.declared.stored.Setup.{Setup}
use Rattle.satp_sides.specs.Due.{due_within, most_turns}
use Rattle.satp_sides.specs.DueLaws.{Rests}
use Rattle.satp_sides.specs.Logs.{IsNote}
use Rattle.satp_sides.specs.Points.{Party, Side, Slot, Text}
use Rattle.satp_points.specs.Answers.{Breaks, Goes}
use Rattle.satp_points.specs.States.{IsAt, Tells}
use Rattle.satp_engine.specs.Working.{HasState, shut, slot_of}
use Rattle.satp_engine.specs.declared.records.Records.{Records}
use Rattle.satp_engine.specs.declared.work.Turn.{Turn}
use Rattle.satp_engine.specs.declared.work.Turn.TheVariants.{Stored, Said, Rested}

-- ---- what may come due

-- the record is due, or it is the one after an answer that the operation which is due may have
pub data Comes (v : View) : Rec → Type 0 where
  Appended : (r : Rec) → next_of v.role v ≡ Append r → Comes v r
  Answered : (op : LedgerOp) (answer : Answer) → next_of v.role v ≡ Act op → MayAnswer op answer → Comes v (after_of op answer)

-- after so many turns nothing is due, whatever the ledger answers
abbrev pub RestsWithin : ℕ → View → Type 0
RestsWithin zero v = Rests (next_of v.role v)
RestsWithin (suc n) v = (r : Rec) → Comes v r → RestsWithin n (push v r)

-- ---- at a site that the gateway fits

-- The due work of so many turns was done, each operation was in order, and this is the session after it.
abbrev pub DueMade : ℕ → Party → SessionId → Slot → Held → Tells → Slot → Held → Tells → Type 0
DueMade n p s l old before last new site =
    (setup : Setup) (side : Side) (t : Told) → IsAt old before setup side t
    → let d = due_within n p s l side.book in (d.in_order ≡ true) × (d.slot ≡ last) × Goes old setup side d.moves t new site

-- a call of one of its moves failed
abbrev pub DueBroke : ℕ → Party → SessionId → Slot → Held → Tells → Tells → Type 0
DueBroke n p s l old before site =
    (setup : Setup) (side : Side) (t : Told) → IsAt old before setup side t → Breaks old setup side (due_within n p s l side.book).moves t (shut old) site

-- What n further turns come to from the later point, m turns come to from the earlier one.
pub record TurnsDone (m n : ℕ) (p : Party) (s : SessionId) (l : Slot) (old : Held) (before : Tells) (after : Slot) (mid : Held) (between : Tells) : Type 0 where
  pub made : (last : Slot) (new : Held) (site : Tells) → DueMade n p s after mid between last new site → DueMade m p s l old before last new site
  pub broke : (site : Tells) → DueBroke n p s after mid between site → DueBroke m p s l old before site

-- ---- a turn

-- the record came due, and it was stored with its message
pub record Turned (s : SessionId) (old new : Records) (before between : Tells) (r : Rec) (message : Option Signed) : Type 0 where
  pub state : State
  pub was : HasState old.log s state
  pub comes : Comes state.view r
  pub after : HasState new.log s (state_with state r message)
  pub done : (n : ℕ) → TurnsDone (suc n) n (party_of old.log.setup) s (slot_of state) old.journal.held before (slot_of (state_with state r message)) new.journal.held between

abbrev pub TurnAnswers : SessionId → Records → Records → Tells → Tells → Result Turn SiteFault → Type 0
TurnAnswers s old new before site (Ok Stored) = (r : Rec) × IsNote r × Turned s old new before site r None
TurnAnswers s old new before site (Ok (Said text)) = (kind : Kind) × (signed : Signed) × (text ≡ signed.text) × Turned s old new before site (Made kind) (Some signed)
TurnAnswers s old new before site (Ok Rested) = (state : State) × HasState old.log s state × Rests (next_of state.view.role state.view) × (new ≡ old) × (site ≡ before)
TurnAnswers s old new before site (Err fault) =
    (state : State) × HasState old.log s state × ((n : ℕ) → DueBroke (suc n) (party_of old.log.setup) s (slot_of state) old.journal.held before site)

-- ---- all turns

-- the session before due work and after it, where this message was made
abbrev pub Worked : Slot → Option Text → Slot → Type 0
Worked l None after = (after.texts ≡ l.texts) × (after.view.tale ≡ l.view.tale) × (after.view.role ≡ l.view.role)
Worked l (Some text) after =
    (kind : Kind) × (after.texts ≡ l.texts ++ text ∷ []) × (after.view.tale ≡ l.view.tale ++ kind ∷ []) × (after.view.role ≡ l.view.role)
    × (maker kind ≡ Some l.view.role) × (is_whole l.view.tale ≡ false)

-- the due work was done, and nothing is due
pub record WorkDone (s : SessionId) (old new : Records) (before site : Tells) (made : Option Text) : Type 0 where
  pub state : State
  pub was : HasState old.log s state
  pub last : State
  pub is : HasState new.log s last
  pub rests : Rests (next_of last.view.role last.view)
  pub worked : Worked (slot_of state) made (slot_of last)
  pub done : DueMade most_turns (party_of old.log.setup) s (slot_of state) old.journal.held before (slot_of last) new.journal.held site

abbrev pub WorkAnswers : SessionId → Records → Records → Tells → Tells → Result (Option Text) SiteFault → Type 0
WorkAnswers s old new before site (Ok made) = WorkDone s old new before site made
WorkAnswers s old new before site (Err fault) =
    (state : State) × HasState old.log s state × DueBroke most_turns (party_of old.log.setup) s (slot_of state) old.journal.held before site
