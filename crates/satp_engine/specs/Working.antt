-- A gateway's records and its site, between the moves of the work on a session.
use Rattle.std.specs.Prelude.{◌≡◌, ◌≤◌, ◌+◌, ◌*◌, ℕ, true, false, List, ◌++◌, map, Option, Some}
use Rattle.satp_base.specs.Calls.{Told}
use Rattle.satp_base.specs.declared.session.SessionId.{SessionId}
use Rattle.satp_chain.specs.Chained.{texts_in}
use Rattle.satp_journal.specs.State.{Fits, Held, JournalState}
use Rattle.satp_log.specs.Folding.{State}
use Rattle.satp_log.specs.Journals.{IsJournal}
use Rattle.satp_log.specs.Logged.{LogHolds, LogState, state_in}
use Rattle.satp_records.specs.declared.stored.Setup.{Setup}
use Rattle.satp_sides.specs.Others.{AreOf}
use Rattle.satp_sides.specs.Points.{Move, Appends, Side, Slot, Stored, slot}
use Rattle.satp_points.specs.Answers.{Breaks, Goes}
use Rattle.satp_points.specs.States.{IsAt, Tells}
use Rattle.satp_engine.specs.declared.records.Records.{Records}

-- ---- at any site

-- the journal is that of these records, and the log holds them
pub record Keeps (r : Records) (setup : Setup) (xs : List Stored) : Type 0 where
  pub journal : IsJournal r.journal.held.payloads setup xs
  pub log : LogHolds r.log setup xs

-- the journal is one of the gateway that the log is of
abbrev pub KeepsSome : Records → Type 0
KeepsSome r = (xs : List Stored) × Keeps r r.log.setup xs

-- It keeps records, no call on its site has failed, and the closed gate after its records lies within the area.
pub record Stands (r : Records) (told : Option Told) : Type 0 where
  pub kept : KeepsSome r
  pub whole : r.journal.held.broken ≡ false
  pub within : Fits r.journal.held told

-- room for so many records more, of any size
abbrev pub HasRoom : ℕ → JournalState → Type 0
HasRoom n journal = (n ≤ journal.spare_records) × (4096 * n ≤ journal.spare_bytes)

-- it takes the room of one record at most
abbrev pub TakesRoom : JournalState → JournalState → Type 0
TakesRoom old new = (n : ℕ) → HasRoom (n + 1) old → HasRoom n new

-- the records of before, and further ones of the session
abbrev pub KeepsFurther : SessionId → Setup → List Stored → Records → Type 0
KeepsFurther s setup xs new = (ys : List Stored) × Keeps new setup (xs ++ ys) × AreOf s (map Appends ys)

-- whatever was kept
abbrev pub Grows : SessionId → Records → Records → Type 0
Grows s old new = (setup : Setup) (xs : List Stored) → Keeps old setup xs → KeepsFurther s setup xs new

-- ---- one session

-- what the log has of it
abbrev pub HasState : LogState → SessionId → State → Type 0
HasState log s state = state_in s log.entries ≡ Some state

abbrev pub slot_of : State → Slot
slot_of state = slot state.view (texts_in state.chain)

-- ---- at a site that the gateway fits

-- from each point, the moves were made
abbrev pub Makes : List Move → Held → Tells → Held → Tells → Type 0
Makes moves old before new site = (setup : Setup) (side : Side) (t : Told) → IsAt old before setup side t → Goes old setup side moves t new site

-- a call on its site has failed
abbrev pub shut : Held → Held
shut held = record held { broken = true }

-- from each point, a call of one of the moves failed
abbrev pub Fails : List Move → Held → Tells → Tells → Type 0
Fails moves old before site = (setup : Setup) (side : Side) (t : Told) → IsAt old before setup side t → Breaks old setup side moves t (shut old) site
