-- What a chain says of a message with its text, and which messages it takes.
use Rattle.std.specs.Prelude.{◌≡◌, ℕ, zero, suc, ◌+◌, ◌-◌, ◌≤◌, ◌&&◌, ◌↔◌, Bool, true, not, List, [], ◌∷◌, ◌++◌, length, slice_get, nat_le, nat_lt, if◌then◌else◌, unwrap_or, ⊤}
use Rattle.std.specs.Str.{bytes_eq}
use Rattle.satp_base.specs.Canonical.{kind_of, part_kind}
use Rattle.satp_base.specs.Chains.{last_link, link_at, message_at, name_of, role_at}
use Rattle.satp_base.specs.Forms.{IsFormed, IsPart}
use Rattle.satp_base.specs.Tales.{IsTale, comes_behind, is_whole, last_of, other}
use Rattle.satp_base.specs.Values.{name_text}
use Rattle.satp_base.specs.declared.name.Name.{Name}
use Rattle.satp_base.specs.declared.session.SessionId.{SessionId}
use Rattle.satp_base.specs.declared.message.Kind.{Kind}
use Rattle.satp_base.specs.declared.message.Link.{Link}
use Rattle.satp_base.specs.declared.message.Kind.TheVariants as kind
use Rattle.satp_base.specs.declared.message.Part.{Part}
use Rattle.satp_base.specs.declared.message.Part.TheVariants.{Plain}
use Rattle.satp_base.specs.declared.message.Body.{Body}
use Rattle.satp_base.specs.declared.message.Body.TheVariants.{Chain, Recover, Update, Success}
use Rattle.satp_base.specs.declared.message.Message.{Message}
use Rattle.satp_base.specs.declared.verdict.Verdict.{Verdict}
use Rattle.satp_base.specs.declared.verdict.Verdict.TheVariants as verdict

-- what a chain shows: its session, the recipient's name, and the kinds and the texts of its messages
pub record ChainState : Type 0 where
  pub session : SessionId
  pub recipient : Name
  pub tale : List Kind
  pub texts : List (List ℕ)

-- the name of the side that makes the message at a place, and that of the other side
abbrev pub maker_at : ChainState → ℕ → Name
maker_at chain place = name_of chain.session chain.recipient (role_at place)

abbrev pub taker_at : ChainState → ℕ → Name
taker_at chain place = name_of chain.session chain.recipient (other (role_at place))

abbrev pub same_name : Name → Name → Bool
same_name a b = bytes_eq (name_text a) (name_text b)

abbrev pub same_link : Link → Link → Bool
same_link a b = bytes_eq a.0 b.0

-- the text at a place, from 1, and the empty one where none stands there
abbrev pub text_at : List (List ℕ) → ℕ → List ℕ
text_at texts zero = []
text_at texts (suc n) = unwrap_or (slice_get texts n) []

-- the chain is whole, and the place stands before its last two
abbrev pub is_settled : ChainState → ℕ → Bool
is_settled chain place = is_whole chain.tale && nat_lt place (length chain.texts - 1)

-- of a text for a place that the chain has
abbrev pub kept_verdict : ChainState → ℕ → List ℕ → Verdict
kept_verdict chain place text =
    if is_settled chain place then verdict.Again place
    else if bytes_eq text (text_at chain.texts place) then verdict.Again place
    else verdict.Other place (link_at chain.texts place)

-- the kind may come after the last one of the tale: exactly where the kinds with it are a tale too
unfoldable pub extends : List Kind → Kind → Bool
extends tale kind = comes_behind (last_of tale) kind

-- of a text for the next place
abbrev pub next_verdict : ChainState → ℕ → Link → Kind → Verdict
next_verdict chain place previous kind =
    if not (same_link previous (last_link chain.texts)) then verdict.WrongPrevious (last_link chain.texts)
    else if extends chain.tale kind then verdict.Next
    else verdict.OffTale place

abbrev pub place_verdict : ChainState → Name → ℕ → Link → Kind → List ℕ → Verdict
place_verdict chain sender place previous kind text =
    if not (same_name sender (maker_at chain place)) then verdict.WrongSender
    else if nat_lt (length chain.texts + 1) place then verdict.Gap (length chain.texts)
    else if nat_le place (length chain.texts) then kept_verdict chain place text
    else next_verdict chain place previous kind

-- of a chain message with its text; a message of recovery is none
abbrev pub body_verdict : ChainState → Name → List ℕ → Body → Verdict
body_verdict chain sender text (Chain place previous part) = place_verdict chain sender place previous (part_kind part) text
body_verdict chain sender text (Recover length last) = verdict.WrongSender
body_verdict chain sender text (Update length entries) = verdict.WrongSender
body_verdict chain sender text (Success length last) = verdict.WrongSender

abbrev pub verdict_on : ChainState → Message → List ℕ → Verdict
verdict_on chain m text = body_verdict chain m.sender text m.body

abbrev pub IsChainBody : Body → Type 0
IsChainBody (Chain place previous part) = ⊤
IsChainBody (Recover length last) = ⊥
IsChainBody (Update length entries) = ⊥
IsChainBody (Success length last) = ⊥

abbrev pub place_of : Body → ℕ
place_of (Chain place previous part) = place
place_of _ = 0

-- a message of recovery counts as an ill-formed part
abbrev pub part_of : Body → Part
part_of (Chain place previous part) = part
part_of (Recover length last) = Plain kind.Recover
part_of (Update length entries) = Plain kind.RecoverUpdate
part_of (Success length last) = Plain kind.RecoverSuccess

-- a formed chain message of this session
pub record IsOfSession (s : SessionId) (m : Message) : Type 0 where
  pub body : IsChainBody m.body
  pub formed : IsFormed m
  pub session : m.session ≡ s

-- the message, of this text, is the next one of the chain; of its signature nothing is said
pub record IsNextOn (chain : ChainState) (m : Message) (text : List ℕ) : Type 0 where
  pub of_session : IsOfSession chain.session m
  pub next : verdict_on chain m text ≡ verdict.Next
  pub receiver : m.receiver ≡ taker_at chain (place_of m.body)

-- the message with this part that the chain takes next
abbrev pub next_message : ChainState → Part → Message
next_message chain part = message_at chain.session chain.recipient (length chain.texts + 1) (last_link chain.texts) part

-- ---- laws

-- a verdict takes a kind exactly where the kinds of the chain with it are a tale too
abbrev pub TalesGoOn : Type 0
TalesGoOn = (tale : List Kind) (kind : Kind) → IsTale tale → (extends tale kind ≡ true) ↔ IsTale (tale ++ kind ∷ [])

-- What is the next on a chain is the message with its part that the chain takes next, and its kind goes on with the tale.
abbrev pub NextIsTheOne : Type 0
NextIsTheOne =
    (chain : ChainState) (m : Message) (text : List ℕ) → IsNextOn chain m text
    → (m ≡ next_message chain (part_of m.body)) × (IsTale chain.tale → IsTale (chain.tale ++ kind_of m.body ∷ []))

-- And a message with a formed part whose kind goes on with the tale is the next one, whatever its text.
abbrev pub TheOneIsNext : Type 0
TheOneIsNext =
    (chain : ChainState) (part : Part) (text : List ℕ) → length chain.tale ≡ length chain.texts → IsTale chain.tale
    → IsPart part → IsTale (chain.tale ++ part_kind part ∷ []) → IsNextOn chain (next_message chain part) text

-- A whole chain looks at its last two texts alone: with others, as many of them and the same at its last two places, it says the same.
abbrev pub LooksAtTheLastTwo : Type 0
LooksAtTheLastTwo =
    (chain : ChainState) (others : List (List ℕ)) (m : Message) (text : List ℕ) → length others ≡ length chain.texts → is_whole chain.tale ≡ true
    → ((place : ℕ) → length chain.texts ≤ place + 1 → text_at others place ≡ text_at chain.texts place)
    → verdict_on (record chain { texts = others }) m text ≡ verdict_on chain m text
