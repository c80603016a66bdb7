-- What may happen to two gateways, which honest texts are refused, and what a call leaves alone.
use Rattle.std.specs.Prelude.{◌≡◌, ◌≢◌, ℕ, [], ◌∷◌, Some, None, Ok, Err}
use Rattle.satp_base.specs.Chains.{head_of, message_at, next_text, zero_link}
use Rattle.satp_base.specs.Forms.{IsMessage}
use Rattle.satp_base.specs.Founding.{Founding}
use Rattle.satp_base.specs.Signatures.{own}
use Rattle.satp_base.specs.declared.message.Body.TheVariants.{Chain, Recover, Success, Update}
use Rattle.satp_base.specs.declared.message.Link.{Link}
use Rattle.satp_base.specs.declared.message.Message.{Message}
use Rattle.satp_base.specs.declared.message.Part.{Part}
use Rattle.satp_base.specs.declared.message.Part.TheVariants.{Proposal}
use Rattle.satp_base.specs.declared.message.Terms.{Terms}
use Rattle.satp_base.specs.declared.message.Role.TheVariants.{Recipient}
use Rattle.satp_base.specs.declared.record.Rec.{Rec}
use Rattle.satp_base.specs.declared.record.Rec.TheVariants.{Began}
use Rattle.satp_base.specs.declared.session.SessionId.{SessionId}
use Rattle.satp_recovery.specs.declared.choice.RecoveryFault.TheVariants.{EntryRefused, Longer}
use Rattle.satp_sides.specs.Calls.{Call, Refusal, refusal_of}
use Rattle.satp_sides.specs.Calls.Call.{Starts, Hears}
use Rattle.satp_sides.specs.Calls.Refusal.{Exists, Receiver, Recovery}
use Rattle.satp_sides.specs.Moves.{message_from}
use Rattle.satp_sides.specs.Points.{Appends, Says, Side, Stored, Text, stored, with_record}
use Rattle.satp_world.specs.Effects.{SaysItsAnswer, Stays}
use Rattle.satp_world.specs.Histories.{MayAllHappen, MayHappen, after_event, after_moves}
use Rattle.satp_world.specs.Histories.Event.{Called, Stopped, Unread}
use Rattle.satp_world.specs.Honest.{IsOutdated}
use Rattle.satp_world.specs.Worlds.{Gateway, Reached, Setting, World, party_at, side_at, start}
use Rattle.satp_world.specs.Worlds.Gateway.{A, B}

-- the first message of a session of gateway A
abbrev pub proposal : Setting → SessionId → Terms → Message
proposal st s terms = message_at s st.b 1 zero_link (Proposal terms)

abbrev pub heard : Setting → Message → Call
heard st m = Hears m (own st.key m) None

pub record EventsThatHappen : Type 0 where
  -- A starts a session, and B takes the proposal
  pub started :
      (st : Setting) (a b : Founding) (s : SessionId) (terms : Terms) → s.gateway ≡ st.a
      → MayAllHappen st (start a b) (Called A (Starts s terms) ∷ Called B (heard st (proposal st s terms)) ∷ [])
  -- where A stops before it says the proposal, no network can hand it over
  pub not_unsaid :
      (st : Setting) (a b : Founding) (s : SessionId) (terms : Terms)
      → ¬ MayAllHappen st (start a b) (Stopped A (Starts s terms) 1 ∷ Called B (heard st (proposal st s terms)) ∷ [])
  -- a gateway starts no session of another's name
  pub not_of_another : (st : Setting) (w : World) (s : SessionId) (terms : Terms) → s.gateway ≢ st.a → ¬ MayHappen st w (Called A (Starts s terms))
  -- a message's own text isn't left unread
  pub not_unread : (st : Setting) (w : World) (g : Gateway) (m : Message) → IsMessage m → ¬ MayHappen st w (Unread g (own st.key m))

-- what A says of a chain of one message at the end of a round
abbrev pub early_end : Setting → SessionId → Terms → Message
early_end st s terms = message_from (party_at st A) s (Success 1 (head_of (next_text s st.b st.key [] (Proposal terms) ∷ [])).last)

-- A has begun a session, and said so
abbrev pub ended_early : Setting → Founding → Founding → SessionId → Terms → World
ended_early st a b s terms = after_moves (after_event st (start a b) (Called A (Starts s terms))) A (Says (own st.key (early_end st s terms)) ∷ [])

-- what A says of a chain of one message to a peer that lacks it
abbrev pub late_update : Setting → SessionId → Terms → Message
late_update st s terms = message_from (party_at st A) s (Update 1 (own st.key (proposal st s terms) ∷ []))

-- A has begun a session and said both its proposal and the update, and B has taken the proposal
abbrev pub taken_alone : Setting → Founding → Founding → SessionId → Terms → World
taken_alone st a b s terms =
    after_moves (after_moves (after_event st (start a b) (Called A (Starts s terms))) A (Says (own st.key (late_update st s terms)) ∷ [])) B
    (Appends (stored s (Began Recipient terms) (own st.key (proposal st s terms))) ∷ [])

pub record TextsOutOfDate : Type 0 where
  -- B, which hasn't heard of the session, refuses the end of the round
  pub early :
      (st : Setting) (a b : Founding) (s : SessionId) (terms : Terms) → s.gateway ≡ st.a
      → Reached st a b (ended_early st a b s terms)
      × (refusal_of (party_at st B) (side_at (ended_early st a b s terms) B).records (heard st (early_end st s terms)) ≡ Some (Recovery (Longer 1)))
  -- B refuses an update whose entry it has taken by itself
  pub late :
      (st : Setting) (a b : Founding) (s : SessionId) (terms : Terms) → s.gateway ≡ st.a
      → Reached st a b (taken_alone st a b s terms)
      × (refusal_of (party_at st B) (side_at (taken_alone st a b s terms) B).records (heard st (late_update st s terms)) ≡ Some (Recovery (EntryRefused 2)))
  -- no message of a chain is out of date, no text is for its address, and none asks for a round with too long a chain
  pub not_a_chains : (place : ℕ) (previous : Link) (part : Part) (refusal : Refusal) → ¬ IsOutdated (Chain place previous part) refusal
  pub not_an_address : (length : ℕ) (last : Link) → ¬ IsOutdated (Success length last) Receiver
  pub not_too_long : (length : ℕ) (last : Link) (by : ℕ) → ¬ IsOutdated (Recover length last) (Recovery (Longer by))

pub record CallsLeaveAlone : Type 0 where
  pub answer : (x : Stored) (t : Text) → SaysItsAnswer (record { answer = Some (Ok (Some t)); moves = Appends x ∷ Says t ∷ [] })
  pub not_unanswered : (t : Text) → ¬ SaysItsAnswer (record { answer = Some (Ok None); moves = Says t ∷ [] })
  pub not_unsaid : (x : Stored) (t : Text) → ¬ SaysItsAnswer (record { answer = Some (Ok (Some t)); moves = Appends x ∷ [] })
  pub not_before_the_record : (x : Stored) (t : Text) → ¬ SaysItsAnswer (record { answer = Some (Ok (Some t)); moves = Says t ∷ Appends x ∷ [] })
  pub not_when_refused : (x : Stored) → ¬ SaysItsAnswer (record { answer = Some (Err Exists); moves = Appends x ∷ [] })
  -- one record more of the session
  pub not_with_a_record : (side : Side) (s : SessionId) (r : Rec) (t : Text) → ¬ Stays s side (with_record side s r t)
