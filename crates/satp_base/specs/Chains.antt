-- The texts of a chain, which its parts determine.
use Rattle.std.specs.Prelude.{◌≡◌, ◌≢◌, ℕ, zero, suc, ◌+◌, ◌-◌, ◌%◌, ◌==◌, List, [], ◌∷◌, ◌++◌, map, length, replicate, slice_get, Option, Some, None, if◌then◌else◌}
use Rattle.std.specs.List.{AllByRecursion}
use Rattle.std.specs.Option.{option_map_or}
use Rattle.sha2.specs.Sha256.{sha256}
use Rattle.satp_base.specs.Tales.{IsTale, maker, other}
use Rattle.satp_base.specs.Canonical.{part_kind}
use Rattle.satp_base.specs.Forms.{IsPart}
use Rattle.satp_base.specs.Signatures.{own}
use Rattle.satp_base.specs.declared.name.Name.{Name}
use Rattle.satp_base.specs.declared.session.SessionId.{SessionId}
use Rattle.satp_base.specs.declared.message.Link.{Link}
use Rattle.satp_base.specs.declared.message.Kind.{Kind}
use Rattle.satp_base.specs.declared.message.Kind.TheVariants as kind
use Rattle.satp_base.specs.declared.message.Reason.{Reason}
use Rattle.satp_base.specs.declared.message.Reason.TheVariants as reason
use Rattle.satp_base.specs.declared.message.Role.{Role}
use Rattle.satp_base.specs.declared.message.Role.TheVariants.{Origin, Recipient}
use Rattle.satp_base.specs.declared.message.Part.{Part}
use Rattle.satp_base.specs.declared.message.Part.TheVariants as part
use Rattle.satp_base.specs.declared.message.Body.TheVariants.{Chain}
use Rattle.satp_base.specs.declared.message.Message.{Message}
use Rattle.satp_base.specs.declared.head.Head.{Head}
use Rattle.satp_base.specs.declared.record.Cause.TheVariants as cause
use Rattle.satp_base.specs.declared.record.Way.{Way}
use Rattle.satp_base.specs.declared.record.Way.TheVariants.{Back}

-- ---- places

-- odd places are the origin's, even ones the recipient's
abbrev pub role_at : ℕ → Role
role_at place = if place % 2 == 1 then Origin else Recipient

-- the session's gateway is its origin
abbrev pub name_of : SessionId → Name → Role → Name
name_of session recipient Origin = session.gateway
name_of session recipient Recipient = recipient

-- ---- links

-- what a message names as `previous` where no text stands before it
abbrev pub zero_link : Link
zero_link = record { 0 = replicate 32 0 }

abbrev pub link_of : List ℕ → Link
link_of text = record { 0 = sha256 text }

-- the link of the text at a place, from 1, and the zero link where none stands there
abbrev pub link_at : List (List ℕ) → ℕ → Link
link_at texts zero = zero_link
link_at texts (suc n) = option_map_or link_of (slice_get texts n) zero_link

abbrev pub last_link : List (List ℕ) → Link
last_link texts = link_at texts (length texts)

-- the length of a chain, and the links of its last two texts
abbrev pub head_of : List (List ℕ) → Head
head_of texts = record { length = length texts; last = last_link texts; before = link_at texts (length texts - 1) }

-- ---- what a side says

-- the reason that a reject names: why the ledger refused the mint, where that made the recipient turn back; else that it was asked to
abbrev pub reason_of : Option Way → Reason
reason_of (Some (Back cause.UnknownAsset)) = reason.UnknownAsset
reason_of (Some (Back cause.MintCapped)) = reason.MintCapped
reason_of (Some (Back cause.LedgerTaken)) = reason.LedgerTaken
reason_of _ = reason.Aborted

-- what a side that has decided so says by a message of a kind that is due; a proposal isn't, and names its terms
abbrev pub made_part : Option Way → Kind → Part
made_part way kind.Reject = part.Reject (reason_of way)
made_part way k = part.Plain k

-- ---- texts

-- the message with this part at a place, behind a text with that link
abbrev pub message_at : SessionId → Name → ℕ → Link → Part → Message
message_at session recipient place previous part = record {
  session = session;
  sender = name_of session recipient (role_at place);
  receiver = name_of session recipient (other (role_at place));
  body = Chain place previous part;
}

-- the texts of these parts from a place on, behind a text with that link
unfoldable pub texts_from : SessionId → Name → List ℕ → ℕ → Link → List Part → List (List ℕ)
texts_from session recipient key place previous [] = []
texts_from session recipient key place previous (part ∷ parts) =
    let text = own key (message_at session recipient place previous part) in
    text ∷ texts_from session recipient key (place + 1) (link_of text) parts

-- the texts of these parts from the beginning on
abbrev pub texts_of : SessionId → Name → List ℕ → List Part → List (List ℕ)
texts_of session recipient key parts = texts_from session recipient key 1 zero_link parts

-- the texts are those of these parts, each of them formed, whose kinds are a tale
pub record ChainOf (session : SessionId) (recipient : Name) (key : List ℕ) (parts : List Part) (texts : List (List ℕ)) : Type 0 where
  pub tale : IsTale (map part_kind parts)
  pub formed : AllByRecursion IsPart parts
  pub each : texts ≡ texts_of session recipient key parts

-- the text of this part behind these texts
abbrev pub next_text : SessionId → Name → List ℕ → List (List ℕ) → Part → List ℕ
next_text session recipient key texts part = own key (message_at session recipient (length texts + 1) (last_link texts) part)

-- one more part puts one more text behind those of the parts before it
abbrev pub AppendsText : Type 0
AppendsText =
    (session : SessionId) (recipient : Name) (key : List ℕ) (parts : List Part) (part : Part)
    → texts_of session recipient key (parts ++ part ∷ [])
    ≡ texts_of session recipient key parts ++ next_text session recipient key (texts_of session recipient key parts) part ∷ []

-- the next message of a tale is made by the side whose place it is
abbrev pub SidesTakeTurns : Type 0
SidesTakeTurns = (tale : List Kind) (k : Kind) → IsTale tale → IsTale (tale ++ k ∷ []) → maker k ≡ Some (role_at (length tale + 1))

-- what is said by a kind is of that kind, and formed where it is a kind of the chain behind the proposal
abbrev pub MadePartsAreFormed : Type 0
MadePartsAreFormed =
    (way : Option Way) (k : Kind)
    → (part_kind (made_part way k) ≡ k) × (maker k ≢ None → k ≢ kind.TransferProposal → IsPart (made_part way k))
