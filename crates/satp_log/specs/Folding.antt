-- What a gateway holds in memory of a session, and which record it takes next.
use Rattle.std.specs.Prelude.{◌≡◌, ◌≢◌, ◌⊎◌, ◌<◌, ℕ, List, [], ◌∷◌, ◌++◌, Option, Some, None, Result, Ok, Err, IsTrue}
use Rattle.satp_base.specs.Canonical.{part_kind}
use Rattle.satp_base.specs.Chains.{next_text}
use Rattle.satp_base.specs.Forms.{IsPart, is_plain}
use Rattle.satp_base.specs.Roles.{IsReached, RoleRule}
use Rattle.satp_base.specs.Tales.{IsTale}
use Rattle.satp_base.specs.Views.{begin, push}
use Rattle.satp_base.specs.declared.message.Kind.{Kind}
use Rattle.satp_base.specs.declared.message.Kind.TheVariants.{Reject}
use Rattle.satp_base.specs.declared.message.Part.{Part}
use Rattle.satp_base.specs.declared.message.Part.TheVariants.{Proposal}
use Rattle.satp_base.specs.declared.message.Role.{Role}
use Rattle.satp_base.specs.declared.message.Terms.{Terms}
use Rattle.satp_base.specs.declared.record.Rec.{Rec}
use Rattle.satp_base.specs.declared.record.Rec.TheVariants.{Began, Took, Made}
use Rattle.satp_base.specs.declared.session.SessionId.{SessionId}
use Rattle.satp_base.specs.declared.view.View.{View}
use Rattle.satp_chain.specs.Chained.{Chained, IsChain, next_signed, pushed, tale_of, texts_in}
use Rattle.satp_chain.specs.Verdicts.{Follows}
use Rattle.satp_chain.specs.declared.signed.Signed.{Signed}
use Rattle.satp_sides.specs.Logs.{IsNote, MayCome}
use Rattle.satp_sides.specs.Points.{Party, Stored, begun, most_sessions, recipient_at, slot, slot_in, stored}
use Rattle.satp_log.specs.declared.fault.Misfit.{Misfit}
use Rattle.satp_log.specs.declared.fault.Misfit.TheVariants.{Refused, Memory}

-- a session's view, and its chain
pub record State : Type 0 where
  pub view : View
  pub chain : Chained

-- The view is that of records that its role's rule allows, and the chain's kinds are its tale.
pub record IsSound (view : View) (chain : Chained) : Type 0 where
  pub tale : tale_of chain ≡ view.tale
  pub reached : IsReached view.role view

-- It is what these records say of the session.
pub record IsStateOf (p : Party) (s : SessionId) (xs : List Stored) (state : State) : Type 0 where
  pub slot : slot_in s xs ≡ Some (slot state.view (texts_in state.chain))
  pub session : state.chain.session ≡ s
  pub recipient : state.chain.recipient ≡ recipient_at p state.view.role
  pub chain : IsChain state.chain p.key
  pub sound : IsSound state.view state.chain

-- The record may come, and the state is that of the records with it.
abbrev pub AddsOne : Party → SessionId → List Stored → Rec → List ℕ → State → Type 0
AddsOne p s xs r text new = MayCome p xs (stored s r text) × IsStateOf p s (xs ++ stored s r text ∷ []) new

-- One record more. Ok: it may come, and the state is that of the records with it. Refused: it may not come, and nothing has changed.
abbrev pub AddAnswers : Party → SessionId → List Stored → State → Rec → List ℕ → State → Result (Unit {0}) Misfit → Type 0
AddAnswers p s xs old r text new (Ok done) = AddsOne p s xs r text new
AddAnswers p s xs old r text new (Err Refused) = (MayCome p xs (stored s r text) → ⊥) × (new ≡ old)
AddAnswers p s xs old r text new (Err Memory) = new ≡ old

-- if the record begins a session, it isn't one too many of its role
abbrev pub HasRoom : Rec → List Stored → Type 0
HasRoom (Began role terms) xs = begun role xs < most_sessions
HasRoom r xs = Unit {0}

-- The first record of a session that no record names.
abbrev pub BeginAnswers : Party → SessionId → List Stored → Rec → List ℕ → Result State Misfit → Type 0
BeginAnswers p s xs r text (Ok state) = AddsOne p s xs r text state
BeginAnswers p s xs r text (Err Refused) = MayCome p xs (stored s r text) → ⊥
BeginAnswers p s xs r text (Err Memory) = Unit {0}

-- the text of the first message of a session that the gateway has this role in
abbrev pub proposal_text : Party → SessionId → Role → Terms → List ℕ
proposal_text p s role terms = next_text s (recipient_at p role) p.key [] (Proposal terms)

-- It is the state of a session whose one record begins it in this role, with these terms.
pub record IsProposed (p : Party) (s : SessionId) (role : Role) (terms : Terms) (state : State) : Type 0 where
  pub view : state.view ≡ begin role terms
  pub texts : texts_in state.chain ≡ proposal_text p s role terms ∷ []
  pub session : state.chain.session ≡ s
  pub recipient : state.chain.recipient ≡ recipient_at p role
  pub chain : IsChain state.chain p.key
  pub sound : IsSound state.view state.chain

-- ---- the message of a record

-- a message of this kind goes on with the chain, and it is no proposal
abbrev pub FitsKind : Chained → Kind → Type 0
FitsKind chain kind = IsTale (tale_of chain ++ kind ∷ []) × (IsTrue (is_plain kind) ⊎ (kind ≡ Reject))

abbrev pub FitsChain : Chained → Rec → Type 0
FitsChain chain (Began role terms) = ⊥
FitsChain chain (Took kind) = FitsKind chain kind
FitsChain chain (Made kind) = FitsKind chain kind
FitsChain chain r = Unit {0}

-- the chain's next message with this part has the text, and this is it; or it has another text
abbrev pub HasText : Chained → List ℕ → Part → List ℕ → Option Signed → Type 0
HasText chain key part text (Some signed) = (signed ≡ next_signed chain key part) × Follows chain signed × (text ≡ signed.text)
HasText chain key part text None = text ≢ (next_signed chain key part).text

-- the same of some message of the kind, and of none of that kind
abbrev pub HasKind : Chained → List ℕ → Kind → List ℕ → Option Signed → Type 0
HasKind chain key kind text (Some signed) = (part : Part) × IsPart part × (part_kind part ≡ kind) × HasText chain key part text (Some signed)
HasKind chain key kind text None = (part : Part) → IsPart part → part_kind part ≡ kind → text ≢ (next_signed chain key part).text

-- the record's message with its text, or that a record without a message has no text
abbrev pub HasMessage : Chained → List ℕ → Rec → List ℕ → Option Signed → Type 0
HasMessage chain key (Took kind) text (Some signed) = HasKind chain key kind text (Some signed)
HasMessage chain key (Made kind) text (Some signed) = HasKind chain key kind text (Some signed)
HasMessage chain key r text (Some signed) = ⊥
HasMessage chain key r text None = IsNote r × (text ≡ [])

-- the text isn't the record's
abbrev pub HasOtherText : Chained → List ℕ → Rec → List ℕ → Type 0
HasOtherText chain key (Took kind) text = HasKind chain key kind text None
HasOtherText chain key (Made kind) text = HasKind chain key kind text None
HasOtherText chain key r text = text ≢ []

abbrev pub MessageAnswers : Chained → List ℕ → Rec → List ℕ → Result (Option Signed) Misfit → Type 0
MessageAnswers chain key r text (Ok found) = HasMessage chain key r text found
MessageAnswers chain key r text (Err Refused) = HasOtherText chain key r text
MessageAnswers chain key r text (Err Memory) = Unit {0}

-- ---- a record whose message is there

-- no text without a message
abbrev pub text_with : Option Signed → List ℕ
text_with None = []
text_with (Some signed) = signed.text

abbrev pub chain_with : Chained → Option Signed → Chained
chain_with chain None = chain
chain_with chain (Some signed) = pushed chain signed

-- the state with the record, and with its message where it has one
abbrev pub state_with : State → Rec → Option Signed → State
state_with state r message = record { view = push state.view r; chain = chain_with state.chain message }

-- The role's rule allows the record, and under the key this is its message, or it has none.
pub record IsNextOf (state : State) (key : List ℕ) (r : Rec) (message : Option Signed) : Type 0 where
  pub rule : RoleRule state.view.role state.view r
  pub message_is : HasMessage state.chain key r (text_with message) message

-- under some key
abbrev pub IsNextOfSome : State → Rec → Option Signed → Type 0
IsNextOfSome state r message = (key : List ℕ) × IsNextOf state key r message
