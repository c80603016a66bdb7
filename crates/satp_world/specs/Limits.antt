-- What no move does: the near misses of the moves that are possible.
use Rattle.std.specs.Prelude.{◌≡◌, ◌≢◌, ℕ, ◌+◌, ◌≤◌, List, [], length, slice_get, Some, IsFalse}
use Rattle.satp_base.specs.Chains.{head_of, message_at, role_at}
use Rattle.satp_base.specs.Forms.{IsMessage}
use Rattle.satp_base.specs.Founding.{Founding}
use Rattle.satp_base.specs.Signatures.{own}
use Rattle.satp_base.specs.Tales.{has}
use Rattle.satp_base.specs.declared.ledger.Entry.TheVariants.{Burnt}
use Rattle.satp_base.specs.declared.message.Body.{Body}
use Rattle.satp_base.specs.declared.message.Body.TheVariants as body
use Rattle.satp_base.specs.declared.message.Kind.TheVariants.{CommitReady}
use Rattle.satp_base.specs.declared.message.Link.{Link}
use Rattle.satp_base.specs.declared.message.Message.{Message}
use Rattle.satp_base.specs.declared.message.Part.{Part}
use Rattle.satp_base.specs.declared.message.Role.{Role}
use Rattle.satp_base.specs.declared.session.SessionId.{SessionId}
use Rattle.satp_sides.specs.Moves.{Among, Delivered, Sayable, last_texts, message_from}
use Rattle.satp_sides.specs.Points.{tale_of, Text, begun, chain_in, most_sessions, records_of}
use Rattle.satp_world.specs.Worlds.{Gateway, Reached, party_at, Setting, World, WorldMoves, maker_side, name_at, opposite, session_in, side_at}

-- What a body says of a chain with these texts: that the text stands there at its place, how long the chain is and its last link, or its last texts.
abbrev pub SaysOf : List Text → Text → Body → Type 0
SaysOf texts t (body.Chain place previous part) = (n : ℕ) × (place ≡ n + 1) × (slice_get texts n ≡ Some t)
SaysOf texts t (body.Recover n last) = (n ≡ length texts) × (last ≡ (head_of texts).last)
SaysOf texts t (body.Update n entries) = (n ≡ length texts) × (entries ≡ last_texts (length entries) texts)
SaysOf texts t (body.Success n last) = (n ≡ length texts) × (last ≡ (head_of texts).last)

-- the text is that of one message of this gateway to the other, of its own chain of that session; an update has at most two entries, as every message
pub record IsOneOf (st : Setting) (w : World) (g : Gateway) (t : Text) : Type 0 where
  pub message : Message
  pub formed : IsMessage message
  pub text : t ≡ own st.key message
  pub sender : message.sender ≡ name_at st g
  pub receiver : message.receiver ≡ name_at st (opposite g)
  pub says : SaysOf (chain_in message.session (side_at w g).records) t message.body

-- a `recover` of the session was sent to this gateway by the peer whose session it is
pub record WasAsked (st : Setting) (w : World) (g : Gateway) (s : SessionId) : Type 0 where
  pub of_the_peer : s.gateway ≡ name_at st (opposite g)
  pub message : Message
  pub formed : IsMessage message
  pub of_it : message.session ≡ s
  pub to_it : message.receiver ≡ name_at st g
  pub length : ℕ
  pub last : Link
  pub recover : message.body ≡ body.Recover length last
  pub said : Among (own st.key message) w.bag

-- What no move of a world does.
pub record IsLimited (st : Setting) (w : World) : Type 0 where
  -- nothing is burnt before commit-ready stands in the recipient's chain
  pub no_early_burn : (g : Gateway) (s : SessionId) → s.gateway ≡ name_at st g → (v : World) → WorldMoves st w v → IsFalse (has CommitReady (tale_of (session_in w g s).b)) → (session_in v g s).a_entry ≢ Burnt
  -- a text that its maker's chain doesn't hold was never delivered, so that nobody takes it
  pub no_forgery : (t : Text) (g : Gateway) (s : SessionId) → s.gateway ≡ name_at st g → (n : ℕ) (previous : Link) (part : Part)
      → IsMessage (message_at s (name_at st (opposite g)) (n + 1) previous part) → t ≡ own st.key (message_at s (name_at st (opposite g)) (n + 1) previous part)
      → slice_get (chain_in s (side_at w (maker_side g (role_at (n + 1)))).records) n ≢ Some t → ¬ Delivered st.key w.bag t
  -- no message of the peer is said, none of another chain, and no update of three messages
  pub no_other_text : (g : Gateway) (t : Text) → Sayable (party_at st g) (side_at w g).records w.bag t → IsOneOf st w g t
  -- nothing is said of a session that the records don't name, unless the peer asked
  pub no_idle_answer : (g : Gateway) (s : SessionId) → records_of s (side_at w g).records ≡ [] → Sayable (party_at st g) (side_at w g).records w.bag (own st.key (message_from (party_at st g) s (body.Update 0 []))) → WasAsked st w g s
  -- a gateway begins at most 2,048 sessions in each role
  pub no_more_sessions : (g : Gateway) (role : Role) → begun role (side_at w g).records ≤ most_sessions

-- and before anything is stored or said, there is nothing to say
abbrev pub LawLimits : Type 0
LawLimits =
    ((st : Setting) (a b : Founding) (w : World) → Reached st a b w → IsLimited st w)
    × ((st : Setting) (g : Gateway) (t : Text) → ¬ Sayable (party_at st g) [] [] t)
