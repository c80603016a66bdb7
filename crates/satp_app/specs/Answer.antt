-- The command `answer`: a proposal for this gateway is read, and its receipt is printed.
use Rattle.std.specs.Prelude.{◌≡◌, ◌≢◌, ℕ, List, [], ◌∷◌, ◌++◌, Option, Some, None}
use Rattle.sha2.specs.Sha256.{sha256}
use Rattle.satp_base.specs.Canonical.{IsText}
use Rattle.satp_base.specs.Roles.{next_of}
use Rattle.satp_base.specs.Views.{begin}
use Rattle.satp_base.specs.declared.name.Name.{Name}
use Rattle.satp_base.specs.declared.message.Link.{Link}
use Rattle.satp_base.specs.declared.message.Kind.{Kind}
use Rattle.satp_base.specs.declared.message.Kind.TheVariants.{ProposalReceipt}
use Rattle.satp_base.specs.declared.message.Part.{Part}
use Rattle.satp_base.specs.declared.message.Part.TheVariants as part
use Rattle.satp_base.specs.declared.message.Role.TheVariants.{Recipient}
use Rattle.satp_base.specs.declared.message.Terms.{Terms}
use Rattle.satp_base.specs.declared.message.Body.{Body}
use Rattle.satp_base.specs.declared.message.Body.TheVariants.{Chain}
use Rattle.satp_base.specs.declared.message.Message.{Message}
use Rattle.satp_base.specs.declared.record.Next.TheVariants.{Append}
use Rattle.satp_base.specs.declared.record.Rec.TheVariants.{Made}
use Rattle.satp_canon.specs.FirstFault.{first_fault}
use Rattle.satp_outcome.specs.Texts.{IsOnly}
use Rattle.satp_outcome.specs.declared.outcome.InputEnd.{InputEnd}
use Rattle.satp_outcome.specs.declared.outcome.InputEnd.TheVariants.{Text, Kind as OtherKind, Receiver}
use Rattle.satp_outcome.specs.declared.reply.Reply.{Reply}
use Rattle.satp_outcome.specs.declared.reply.Reply.TheVariants.{Lines, Refuses}

-- the terms that a message proposes
abbrev pub part_terms : Part → Option Terms
part_terms (part.Proposal terms) = Some terms
part_terms _ = None

abbrev pub terms_proposed : Body → Option Terms
terms_proposed (Chain place previous part) = part_terms part
terms_proposed _ = None

-- what the recipient of a proposal of these terms makes next
abbrev pub Due : Terms → Kind → Type 0
Due terms kind = next_of Recipient (begin Recipient terms) ≡ Append (Made kind)

-- the answer of the gateway of this name to the proposal with that text
abbrev pub answer_to : Name → Message → List ℕ → Kind → Message
answer_to name m text kind = let link : Link = record { 0 = sha256 text } in record { session = m.session; sender = name; receiver = m.sender; body = Chain 2 link (part.Plain kind) }

-- a receipt is due, and the line is its canonical text and a newline
pub record Answers (name : Name) (terms : Terms) (m : Message) (text : List ℕ) (line : List ℕ) : Type 0 where
  pub due : Due terms ProposalReceipt
  pub receipt : List ℕ
  pub canonical : IsText (answer_to name m text ProposalReceipt) receipt
  pub newline : line ≡ receipt ++ 10 ∷ []

-- the text is that of a proposal
abbrev pub Proposes : List ℕ → Message → Terms → Type 0
Proposes text m terms = IsOnly text m × (terms_proposed m.body ≡ Some terms)

-- what the command replies to a text
abbrev pub refuses : Name → List ℕ → InputEnd → Type 0
refuses name text (Text fault) = first_fault text ≡ Some fault
refuses name text OtherKind = (m : Message) × IsOnly text m × (terms_proposed m.body ≡ None)
refuses name text Receiver = (m : Message) × (terms : Terms) × Proposes text m terms × (m.receiver ≢ name)
refuses name text _ = ⊥

abbrev pub answer_says : Name → List ℕ → Reply → Type 0
answer_says name text (Lines line) = (m : Message) × (terms : Terms) × Proposes text m terms × (m.receiver ≡ name) × Answers name terms m text line
answer_says name text (Refuses end) = refuses name text end
