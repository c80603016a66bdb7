-- What a log holds of a journal's records, and what its calls answer.
use Rattle.std.specs.Prelude.{◌≡◌, ◌≢◌, ◌+◌, ◌≤◌, ◌<◌, ℕ, List, [], ◌∷◌, ◌++◌, map, take, filter, slice_get, Bool, true, false, Option, Some, None, option_and_then, Result, Ok, Err, nat_lt, if◌then◌else◌}
use Rattle.satp_base.specs.declared.text.Memory.{Memory}
use Rattle.satp_base.specs.declared.message.Role.{Role}
use Rattle.satp_base.specs.declared.message.Role.TheVariants.{Origin, Recipient}
use Rattle.satp_base.specs.declared.record.Rec.{Rec}
use Rattle.satp_base.specs.declared.record.Rec.TheVariants.{Began}
use Rattle.satp_base.specs.declared.session.SessionId.{SessionId}
use Rattle.satp_records.specs.declared.stored.Setup.{Setup}
use Rattle.satp_sides.specs.Calls.{text_of}
use Rattle.satp_sides.specs.Logs.{MayCome}
use Rattle.satp_sides.specs.Points.{Party, Slot, Stored, begun, is_session, most_sessions, slot_in, stored}
use Rattle.satp_chain.specs.declared.signed.Signed.{Signed}
use Rattle.satp_log.specs.Folding.{IsNextOf, IsStateOf, State}
use Rattle.satp_log.specs.Journals.{IsFirstRefused, IsJournal, IsSomeJournal, party_of}
use Rattle.satp_log.specs.declared.fault.LogFault.{LogFault}
use Rattle.satp_log.specs.declared.fault.LogFault.TheVariants as fault
use Rattle.satp_log.specs.declared.fault.Misfit.{Misfit}
use Rattle.satp_log.specs.declared.fault.Misfit.TheVariants as misfit
use Rattle.satp_log.specs.declared.held.Held.{Held}

-- ---- logs

abbrev pub begins : Rec → Bool
begins (Began role terms) = true
begins r = false

-- the sessions in the order of their first records
abbrev pub sessions_in : List Stored → List SessionId
sessions_in xs = map (λ (x : Stored). x.session) (filter (λ (x : Stored). begins x.rec) xs)

-- each entry is what the records say of its session
abbrev pub AllHeld : Party → List Stored → List Held → Type 0
AllHeld p xs [] = Unit {0}
AllHeld p xs (h ∷ hs) = IsStateOf p h.session xs h.state × AllHeld p xs hs

abbrev pub sessions_of : List Held → List SessionId
sessions_of hs = map (λ (h : Held). h.session) hs

-- what a log shows
pub record LogState : Type 0 where
  pub setup : Setup
  pub entries : List Held
  pub started : ℕ
  pub accepted : ℕ
  -- how many sessions more it can hold without taking memory
  pub spare : ℕ

-- the state of the session's first entry; none where no entry is of the session
abbrev pub state_in : SessionId → List Held → Option State
state_in s [] = None
state_in s (h ∷ hs) = if is_session s h.session then Some h.state else state_in s hs

-- it holds a gateway with these records
pub record LogHolds (log : LogState) (setup : Setup) (xs : List Stored) : Type 0 where
  pub setup_is : log.setup ≡ setup
  pub sessions : sessions_of log.entries ≡ sessions_in xs
  pub states : AllHeld (party_of setup) xs log.entries
  pub started : log.started ≡ begun Origin xs
  pub accepted : log.accepted ≡ begun Recipient xs

-- the text at a place of a session's chain, from 1
abbrev pub text_in : SessionId → List Stored → ℕ → Option (List ℕ)
text_in s xs place = option_and_then (λ (l : Slot). text_of l.texts place) (slot_in s xs)

-- ---- answers

-- what the records say of the session; none where no record names it
abbrev pub FoundIn : Party → SessionId → List Stored → Option State → Type 0
FoundIn p s xs (Some state) = IsStateOf p s xs state
FoundIn p s xs None = slot_in s xs ≡ None

-- the same, with another room
abbrev pub with_spare : LogState → ℕ → LogState
with_spare log n = record { setup = log.setup; entries = log.entries; started = log.started; accepted = log.accepted; spare = n }

-- Ok: there is room for one session more. The rest is the same on both answers, and no room is lost.
abbrev pub Reserves : LogState → LogState → Result (Unit {0}) Memory → Type 0
Reserves old new (Ok done) = (new ≡ with_spare old new.spare) × (1 ≤ new.spare) × (old.spare ≤ new.spare)
Reserves old new (Err e) = new ≡ old

-- The log has the session, the role's rule allows the record, and this is its message, or it has none.
pub record IsComing (log : LogState) (s : SessionId) (r : Rec) (message : Option Signed) : Type 0 where
  pub state : State
  pub there : state_in s log.entries ≡ Some state
  pub next : IsNextOf state log.setup.key r message

-- how many sessions the log has begun in a role
abbrev pub count_of : Role → LogState → ℕ
count_of Origin log = log.started
count_of Recipient log = log.accepted

-- The record may come, and the log holds it too.
abbrev pub HoldsOne : Setup → List Stored → SessionId → Rec → List ℕ → LogState → Type 0
HoldsOne setup xs s r text new = MayCome (party_of setup) xs (stored s r text) × LogHolds new setup (xs ++ stored s r text ∷ [])

-- Ok: it is a journal's first payload, and the log holds that. Refused: no gateway's journal begins so.
abbrev pub BeginsLog : List ℕ → Result LogState Misfit → Type 0
BeginsLog payload (Ok log) = (setup : Setup) × IsJournal (payload ∷ []) setup [] × LogHolds log setup []
BeginsLog payload (Err misfit.Refused) = IsSomeJournal (payload ∷ []) → ⊥
BeginsLog payload (Err misfit.Memory) = Unit {0}

-- Ok: with the payload they are a journal with one record more, and the log holds that. Refused: with it they are no gateway's journal, and the log is as it was.
abbrev pub AddsTo : List (List ℕ) → Setup → List Stored → List ℕ → LogState → LogState → Result (Unit {0}) Misfit → Type 0
AddsTo payloads setup xs payload old new (Ok done) = (x : Stored) × IsJournal (payloads ++ payload ∷ []) setup (xs ++ x ∷ []) × LogHolds new setup (xs ++ x ∷ [])
AddsTo payloads setup xs payload old new (Err misfit.Refused) = (IsSomeJournal (payloads ++ payload ∷ []) → ⊥) × (new ≡ old)
AddsTo payloads setup xs payload old new (Err misfit.Memory) = new ≡ old

-- the same of a record
abbrev pub AddsRecord : Setup → List Stored → SessionId → Rec → List ℕ → LogState → LogState → Result (Unit {0}) Misfit → Type 0
AddsRecord setup xs s r text old new (Ok done) = HoldsOne setup xs s r text new
AddsRecord setup xs s r text old new (Err misfit.Refused) = (MayCome (party_of setup) xs (stored s r text) → ⊥) × (new ≡ old)
AddsRecord setup xs s r text old new (Err misfit.Memory) = new ≡ old

-- Ok: they are a gateway's journal, which the log holds. Empty: there are none. Record: the one at the index is the first that may not stand there.
abbrev pub LogReads : List (List ℕ) → Result LogState LogFault → Type 0
LogReads payloads (Ok log) = (setup : Setup) × (xs : List Stored) × IsJournal payloads setup xs × LogHolds log setup xs
LogReads payloads (Err fault.Empty) = payloads ≡ []
LogReads payloads (Err (fault.Record index)) = IsFirstRefused payloads index
LogReads payloads (Err fault.Memory) = Unit {0}

-- ---- helpers of the code

-- the log holds the journal that the first payloads are, so many of them
abbrev pub HoldsFirst : List (List ℕ) → ℕ → LogState → Type 0
HoldsFirst payloads n log = (setup : Setup) × (xs : List Stored) × IsJournal (take n payloads) setup xs × LogHolds log setup xs

-- Ok: the log holds the first payload. A fault is that of the payloads.
abbrev pub ReadsFirst : List (List ℕ) → Result LogState LogFault → Type 0
ReadsFirst payloads (Ok log) = HoldsFirst payloads 1 log
ReadsFirst payloads (Err e) = LogReads payloads (Err e)

abbrev pub fault_at : Misfit → ℕ → LogFault
fault_at misfit.Refused index = fault.Record index
fault_at misfit.Memory index = fault.Memory

-- the index of the session's first entry; none where no entry is of the session
abbrev pub IsPlaceOf : List Held → SessionId → Option ℕ → Type 0
IsPlaceOf hs s (Some i) = (h : Held) × (slice_get hs i ≡ Some h) × (h.session ≡ s) × ((j : ℕ) (k : Held) → j < i → slice_get hs j ≡ Some k → k.session ≢ s)
IsPlaceOf hs s None = (i : ℕ) (h : Held) → slice_get hs i ≡ Some h → h.session ≢ s

-- one entry more, with these counts, for which there was room
pub record Enters (old : LogState) (s : SessionId) (state : State) (started accepted : ℕ) (new : LogState) : Type 0 where
  pub setup_is : new.setup ≡ old.setup
  pub entries_are : new.entries ≡ old.entries ++ (record { session = s; state = state }) ∷ []
  pub started_is : new.started ≡ started
  pub accepted_is : new.accepted ≡ accepted
  pub spare_is : old.spare ≤ new.spare + 1

-- the counts with a session that the record begins; none where it is one too many of its role
abbrev pub counts_with : Rec → ℕ → ℕ → Option (ℕ × ℕ)
counts_with (Began Origin terms) started accepted = if nat_lt started most_sessions then Some (started + 1, accepted) else None
counts_with (Began Recipient terms) started accepted = if nat_lt accepted most_sessions then Some (started, accepted + 1) else None
counts_with r started accepted = Some (started, accepted)
