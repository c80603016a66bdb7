-- What a call stores first.
use Rattle.std.specs.Prelude.{◌≡◌, ◌≤◌, ◌<◌, ℕ, List, [], ◌∷◌, Option, None}
use Rattle.satp_base.specs.declared.message.Role.{Role}
use Rattle.satp_base.specs.declared.message.Terms.{Terms}
use Rattle.satp_base.specs.declared.record.Rec.{Rec}
use Rattle.satp_base.specs.declared.record.Rec.TheVariants.{Began}
use Rattle.satp_base.specs.declared.session.SessionId.{SessionId}
use Rattle.satp_chain.specs.declared.signed.Signed.{Signed}
use Rattle.satp_log.specs.Folding.{IsProposed, State, proposal_text, state_with, text_with}
use Rattle.satp_log.specs.Journals.{party_of, payload_in}
use Rattle.satp_log.specs.Logged.{IsComing, LogState, count_of, state_in}
use Rattle.satp_sides.specs.LogLaws.{IsOfRole}
use Rattle.satp_sides.specs.Points.{Party, Stored, most_sessions, stored}
use Rattle.satp_points.specs.Decisions.{first_of}
use Rattle.satp_points.specs.declared.decision.First.{First}
use Rattle.satp_engine.specs.Working.{HasState}
use Rattle.satp_engine.specs.declared.start.Start.{Start}
use Rattle.satp_engine.specs.declared.start.Start.TheVariants as start

-- the record, if there is one
abbrev pub start_records : Party → SessionId → Start → List Stored
start_records p s start.Nothing = []
start_records p s (start.Record r message payload) = stored s r (text_with message) ∷ []
start_records p s (start.Session role terms state payload) = stored s (Began role terms) (proposal_text p s role terms) ∷ []

-- a session begins, for which the log has room
pub record IsBeginning (log : LogState) (s : SessionId) (role : Role) (terms : Terms) (state : State) (payload : List ℕ) : Type 0 where
  pub room : 1 ≤ log.spare
  pub new : state_in s log.entries ≡ None
  pub proposed : IsProposed (party_of log.setup) s role terms state
  pub count : count_of role log < most_sessions
  pub role_is : IsOfRole (party_of log.setup) s role
  pub payload_is : payload ≡ payload_in (stored s (Began role terms) (proposal_text (party_of log.setup) s role terms))

-- the log takes it next, with its payload, and this is the session after it
abbrev pub StartFits : LogState → SessionId → Start → State → Type 0
StartFits log s start.Nothing after = HasState log s after
StartFits log s (start.Record r message payload) after =
    (coming : IsComing log s r message) × (after ≡ state_with coming.state r message) × (payload ≡ payload_in (stored s r (text_with message)))
StartFits log s (start.Session role terms state payload) after = IsBeginning log s role terms state payload × (after ≡ state)

-- it is what the decision says
abbrev pub Starts : LogState → SessionId → First → Start → Type 0
Starts log s first x = ((after : State) × StartFits log s x after) × (start_records (party_of log.setup) s x ≡ first_of (party_of log.setup) s first)

-- ---- helpers of the code

abbrev pub IsRecordStart : SessionId → Rec → Option Signed → Start → Type 0
IsRecordStart s r message x = (payload : List ℕ) × (x ≡ start.Record r message payload) × (payload ≡ payload_in (stored s r (text_with message)))

-- the log hasn't the session, which may begin
pub record IsNew (log : LogState) (s : SessionId) (role : Role) : Type 0 where
  pub new : state_in s log.entries ≡ None
  pub count : count_of role log < most_sessions
  pub role_is : IsOfRole (party_of log.setup) s role

abbrev pub IsSessionStart : LogState → SessionId → Role → Terms → Start → Type 0
IsSessionStart log s role terms x = (state : State) × (payload : List ℕ) × (x ≡ start.Session role terms state payload) × IsBeginning log s role terms state payload
