-- What the functions of this crate answer one another.
use Rattle.std.specs.Prelude.{◌≡◌, ℕ, Bool, true, false, List, [], ◌∷◌, Option, Some, None, Result, Ok, Err}
use Rattle.satp_base.specs.Chains.{next_text}
use Rattle.satp_base.specs.Roles.{both, negate}
use Rattle.satp_base.specs.declared.message.Body.{Body}
use Rattle.satp_base.specs.declared.message.Body.TheVariants as body
use Rattle.satp_base.specs.declared.message.Message.{Message}
use Rattle.satp_base.specs.declared.message.Part.TheVariants as part
use Rattle.satp_base.specs.declared.message.Role.TheVariants.{Recipient}
use Rattle.satp_base.specs.declared.message.Terms.{Terms}
use Rattle.satp_base.specs.declared.record.Rec.{Rec}
use Rattle.satp_base.specs.declared.session.SessionId.{SessionId}
use Rattle.satp_base.specs.declared.text.Memory.{Memory as NoMemory}
use Rattle.satp_base.specs.declared.verdict.Verdict.TheVariants as verdict
use Rattle.satp_base.specs.declared.view.View.{View}
use Rattle.satp_chain.specs.declared.signed.Signed.{Signed}
use Rattle.satp_log.specs.Journals.{party_of}
use Rattle.satp_log.specs.Logged.{LogHolds, LogState}
use Rattle.satp_records.specs.Formats.{IsFormed}
use Rattle.satp_records.specs.declared.stored.Setup.{Setup}
use Rattle.satp_records.specs.declared.stored.Stored.TheVariants as journaled
use Rattle.satp_recovery.specs.declared.choice.RecoveryFault.TheVariants.{EntryRefused}
use Rattle.satp_sides.specs.Calls as call
use Rattle.satp_sides.specs.Calls.{Refusal, IsEntryOf, IsOwn, Run, adopted, adopted_as, first_refusal, is_adopted, is_full, is_misaddressed, is_named, is_strange, rescue_in, taken, test, update_text, verdict_in}
use Rattle.satp_sides.specs.Logs.{IsLog}
use Rattle.satp_sides.specs.Points.{Party, Side, Slot, Stored, Text, is_session, most_sessions, slot_in}
use Rattle.satp_points.specs.Deciding.{IsWritten, RefusesAs}
use Rattle.satp_points.specs.Decisions.{IsReady, decided_run}
use Rattle.satp_points.specs.declared.decision.Decision.{Decision}
use Rattle.satp_points.specs.declared.decision.Decision.TheVariants.{Gives, Works}
use Rattle.satp_points.specs.declared.decision.First.{First}
use Rattle.satp_points.specs.declared.decision.First.TheVariants as first
use Rattle.satp_points.specs.declared.decision.Replying.TheVariants as replying
use Rattle.satp_points.specs.declared.fault.Refused.{Refused}
use Rattle.satp_points.specs.declared.fault.Refused.TheVariants.{Memory}

-- ---- first records

abbrev pub first_noted : Option Rec → First
first_noted None = first.Nothing
first_noted (Some r) = first.Note r

-- an undecided origin says that it is in a recovery round
abbrev pub first_rescued : View → First
first_rescued v = first_noted (rescue_in v)

-- ---- messages

-- the terms of a proposal
abbrev pub proposed : Body → Option Terms
proposed (body.Chain place previous (part.Proposal terms)) = Some terms
proposed b = None

abbrev pub is_chain_body : Body → Bool
is_chain_body (body.Chain place previous q) = true
is_chain_body b = false

-- a chain message of the session, from the peer to this gateway
abbrev pub is_of_chain : Party → SessionId → Message → Bool
is_of_chain p s m = both (negate (is_misaddressed p m)) (both (is_session s m.session) (is_chain_body m.body))

-- ---- work on a session

-- work on this session, after which no message is written
abbrev pub WorksOn : SessionId → Decision → Type 0
WorksOn s (Gives reply) = ⊥
WorksOn s (Works t first reply) = (t ≡ s) × (IsWritten reply → ⊥)

-- Nothing refuses it, and it comes to this run.
pub record Comes (p : Party) (xs : List Stored) (s : SessionId) (tests : Option Refusal) (run : Side → Run) (d : Decision) : Type 0 where
  pub passed : tests ≡ None
  pub ready : IsReady p xs d
  pub works : WorksOn s d
  pub comes_to : (side : Side) → side.records ≡ xs → run side ≡ decided_run p side d

abbrev pub ComesTo : Party → List Stored → SessionId → Option Refusal → (Side → Run) → Result Decision Refused → Type 0
ComesTo p xs s tests run (Ok d) = Comes p xs s tests run d
ComesTo p xs s tests run (Err Memory) = Unit {0}
ComesTo p xs s tests run (Err r) = RefusesAs tests r

-- the same, where the set-up is formed and the records are a log
abbrev pub OverGateways : LogState → (Party → List Stored → Type 0) → Type 0
OverGateways log P = (setup : Setup) (xs : List Stored) → LogHolds log setup xs → IsFormed (journaled.Setup setup) → IsLog (party_of setup) xs → P (party_of setup) xs

-- ---- a message is taken

-- one session more of the peer would be one too many
abbrev pub begin_refusal : List Stored → Option Refusal
begin_refusal xs = test (is_full Recipient xs) (call.Full most_sessions)

-- it would begin, and would be one too many
abbrev pub room_refusal : List Stored → SessionId → Option Refusal
room_refusal xs s = test (both (negate (is_named s xs)) (is_full Recipient xs)) (call.Full most_sessions)

-- a session of the peer that no record names begins
abbrev pub BeginsNext : SessionId → Terms → LogState → Result Decision Refused → Type 0
BeginsNext s terms log result =
    OverGateways log (λ p xs. slot_in s xs ≡ None → s.gateway ≡ p.peer
    → ComesTo p xs s (begin_refusal xs) (λ side. taken p side s None (part.Proposal terms) (next_text s p.name p.key [] (part.Proposal terms))) result)

-- it is from the peer, and its session may be spoken of
pub record IsOfPeer (p : Party) (xs : List Stored) (m : Message) : Type 0 where
  pub addressed : is_misaddressed p m ≡ false
  pub known : is_strange p xs m.session ≡ false

abbrev pub TakesNext : Signed → LogState → Result Decision Refused → Type 0
TakesNext signed log result =
    OverGateways log (λ p xs. IsOfPeer p xs signed.message
    → ComesTo p xs signed.message.session (room_refusal xs signed.message.session) (λ side. adopted_as p side signed.message.session signed.text signed.message.body) result)

-- ---- recovery

-- what it does that is asked for its chain by a peer that has a chain of this length
abbrev pub asked_decision : Party → SessionId → ℕ → Option Slot → Decision
asked_decision p s n None = Gives (Some (update_text p s 0 []))
asked_decision p s n (Some l) = Works s (first_rescued l.view) (replying.Update n)

-- ---- an entry of an update

-- there is just one
abbrev pub IsOne : List Text → Type 0
IsOne entries = (t : Text) × (entries ≡ t ∷ [])

-- the one entry is this message, which the chain takes next; or it is none that the chain does
abbrev pub FoundEntry : Party → List Stored → SessionId → Text → Option Signed → Type 0
FoundEntry p xs s t (Some signed) =
    IsOwn p.key signed.text signed.message × (signed.text ≡ t) × (signed.message.session ≡ s) × (is_misaddressed p signed.message ≡ false) × (verdict_in p xs s signed.message t ≡ verdict.Next)
FoundEntry p xs s t None = (n : ℕ) (e : Option Message) → IsEntryOf p.key (body.Update n (t ∷ [])) e → is_adopted p xs s (t ∷ []) e ≡ false

abbrev pub FindsEntryIn : Party → List Stored → SessionId → Text → Result (Option Signed) NoMemory → Type 0
FindsEntryIn p xs s t (Ok found) = FoundEntry p xs s t found
FindsEntryIn p xs s t (Err e) = Unit {0}

abbrev pub FindsEntry : SessionId → Text → LogState → Result (Option Signed) NoMemory → Type 0
FindsEntry s t log result = (setup : Setup) (xs : List Stored) → LogHolds log setup xs → FindsEntryIn (party_of setup) xs s t result

abbrev pub adopt_refusal : Party → List Stored → SessionId → List Text → Option Message → ℕ → Option Refusal
adopt_refusal p xs s entries e place = first_refusal (test (negate (is_adopted p xs s entries e)) (call.Recovery (EntryRefused place)) ∷ room_refusal xs s ∷ [])

abbrev pub AdoptsEntry : SessionId → List Text → ℕ → LogState → Result Decision Refused → Type 0
AdoptsEntry s entries place log result =
    OverGateways log (λ p xs. (n : ℕ) (e : Option Message) → IsEntryOf p.key (body.Update n entries) e → is_strange p xs s ≡ false
    → ComesTo p xs s (adopt_refusal p xs s entries e place) (λ side. adopted p side s entries e) result)
