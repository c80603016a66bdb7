-- What carrying out a decision to work comes to.
use Rattle.std.specs.Prelude.{◌≡◌, ◌≤◌, ◌+◌, Bool, true, false, if◌then◌else◌, length, Option, Some, Result, Ok, Err}
use Rattle.satp_base.specs.Calls.{Told}
use Rattle.satp_base.specs.Roles.{next_of}
use Rattle.satp_base.specs.declared.session.SessionId.{SessionId}
use Rattle.satp_base.specs.declared.site.SiteFault.{SiteFault}
use Rattle.satp_journal.specs.State.{Held}
use Rattle.satp_log.specs.Folding.{State}
use Rattle.satp_log.specs.Journals.{party_of}
use Rattle.satp_log.specs.Logged.{LogState}
use Rattle.satp_records.specs.declared.stored.Setup.{Setup}
use Rattle.satp_sides.specs.Calls.{Run}
use Rattle.satp_sides.specs.DueLaws.{Rests}
use Rattle.satp_sides.specs.Points.{Side, Slot, Text}
use Rattle.satp_points.specs.Answers.{Breaks, Goes, GoesUnsaid}
use Rattle.satp_points.specs.Deciding.{IsWritten}
use Rattle.satp_points.specs.Decisions.{decided_run, first_of, reply_by}
use Rattle.satp_points.specs.States.{IsAt, Tells}
use Rattle.satp_points.specs.declared.decision.Decision.TheVariants.{Works}
use Rattle.satp_points.specs.declared.decision.First.{First}
use Rattle.satp_points.specs.declared.decision.Replying.{Replying}
use Rattle.satp_points.specs.declared.decision.Replying.TheVariants as replying
use Rattle.satp_points.specs.declared.fault.Refused.{Refused}
use Rattle.satp_points.specs.declared.fault.Refused.TheVariants.{Site}
use Rattle.satp_engine.specs.Starting.{StartFits, start_records}
use Rattle.satp_engine.specs.Turning.{Worked}
use Rattle.satp_engine.specs.Working.{HasState, KeepsSome, Stands, shut, slot_of}
use Rattle.satp_engine.specs.declared.records.Records.{Records}
use Rattle.satp_engine.specs.declared.start.Start.{Start}

-- ---- the first record and the due work

-- The run was made, and `last` is the session after it; or the run was made but for the saying of its reply.
pub record RunMade (run : Run) (reply : Option Text) (old : Held) (setup : Setup) (side : Side) (t : Told) (new : Held) (site : Tells) : Type 0 where
  pub answer : run.answer ≡ Some (Ok reply)
  pub goes : Goes old setup side run.moves t new site
  pub unsaid : (text : Text) → reply ≡ Some text → GoesUnsaid run old setup side t new site

-- whichever decision has this first record, and whatever is its reply
abbrev pub RunsMade : SessionId → Start → State → Records → Records → Tells → Tells → Type 0
RunsMade s start last old new before site =
    (first : First) (reply : Replying) (setup : Setup) (side : Side) (t : Told) → start_records (party_of old.log.setup) s start ≡ first_of (party_of old.log.setup) s first
    → IsAt old.journal.held before setup side t
    → RunMade (decided_run (party_of setup) side (Works s first reply)) (reply_by (party_of setup) s reply (slot_of last)) old.journal.held setup side t new.journal.held site

abbrev pub RunsBroke : SessionId → Start → Records → Tells → Tells → Type 0
RunsBroke s start old before site =
    (first : First) (reply : Replying) (setup : Setup) (side : Side) (t : Told) → start_records (party_of old.log.setup) s start ≡ first_of (party_of old.log.setup) s first
    → IsAt old.journal.held before setup side t
    → Breaks old.journal.held setup side (decided_run (party_of setup) side (Works s first reply)).moves t (shut old.journal.held) site

-- the first record was stored, and the due work was done
pub record Executed (s : SessionId) (start : Start) (old new : Records) (before site : Tells) (made : Option Text) : Type 0 where
  pub after : State
  pub fits : StartFits old.log s start after
  pub last : State
  pub is : HasState new.log s last
  pub rests : Rests (next_of last.view.role last.view)
  pub worked : Worked (slot_of after) made (slot_of last)
  pub runs : RunsMade s start last old new before site

abbrev pub ExecuteAnswers : SessionId → Start → Records → Records → Tells → Tells → Result (Option Text) SiteFault → Type 0
ExecuteAnswers s start old new before site (Ok made) = Executed s start old new before site made
ExecuteAnswers s start old new before site (Err fault) = RunsBroke s start old before site

-- ---- the reply

-- an update says three texts at most
abbrev pub SaysFew : Replying → Slot → Type 0
SaysFew (replying.Update given) l = length l.texts ≤ given + 2
SaysFew reply l = Unit {0}

-- the text that was the reply before the due work, and the message that was made
pub record IsStanding (log : LogState) (s : SessionId) (reply : Replying) (standing made : Option Text) : Type 0 where
  pub from : Slot
  pub long : length from.texts ≡ length from.view.tale
  pub standing_is : (IsWritten reply → ⊥) → standing ≡ reply_by (party_of log.setup) s reply from
  pub last : State
  pub there : HasState log s last
  pub worked : Worked from made (slot_of last)
  pub few : SaysFew reply (slot_of last)

-- ---- all of it

-- a call on the site failed
abbrev pub is_site_fault : Result (Option Text) Refused → Bool
is_site_fault (Err Site) = true
is_site_fault result = false

-- as the register has it: a fault of the site leaves it broken
abbrev pub held_after : Result (Option Text) Refused → Held → Held
held_after result held = if is_site_fault result then shut held else held

-- the records are kept; and the gate after them lies within the area, where no call on the site failed
abbrev pub StandsAfter : Result (Option Text) Refused → Records → Option Told → Type 0
StandsAfter result r told = KeepsSome r × (is_site_fault result ≡ false → Stands r told)
