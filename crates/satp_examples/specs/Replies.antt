-- What the commands `answer` and `check` reply: here to alpha's proposal for beta.
use Rattle.std.specs.Prelude.{◌≡◌, ℕ, List, [], ◌∷◌, ◌++◌, codes, length, replicate, None}
use Rattle.satp_base.specs.Canonical.{canonical}
use Rattle.satp_base.specs.Chains.{zero_link}
use Rattle.satp_base.specs.Signatures.{jws}
use Rattle.satp_base.specs.declared.message.Body.TheVariants as body
use Rattle.satp_base.specs.declared.message.Kind.TheVariants.{TransferProposal, ProposalReceipt, TransferCommence}
use Rattle.satp_base.specs.declared.message.Message.{Message}
use Rattle.satp_base.specs.declared.message.Part.TheVariants as part
use Rattle.satp_canon.specs.declared.fault.CanonFault.{CanonFault}
use Rattle.satp_canon.specs.declared.fault.CanonFault.TheVariants as canon
use Rattle.satp_jws.specs.Faults.{header_fault, payload_of}
use Rattle.satp_jws.specs.declared.fault.JwsFault.{JwsFault}
use Rattle.satp_app.specs.Answer.{answer_says, answer_to}
use Rattle.satp_app.specs.Check.{check_says, line, signed_says}
use Rattle.satp_outcome.specs.declared.outcome.InputEnd.TheVariants.{Text, Signature, Kind as OtherKind, Receiver}
use Rattle.satp_outcome.specs.declared.reply.Reply.{Reply}
use Rattle.satp_outcome.specs.declared.reply.Reply.TheVariants.{Lines, Refuses}
use Rattle.satp_examples.specs.Messages.{from_alpha, proposal_text}
use Rattle.satp_examples.specs.Samples.{alpha, beta, quarter}

abbrev pub proposal : Message
proposal = from_alpha (body.Chain 1 zero_link (part.Proposal quarter))

-- alpha's third message
abbrev pub commence : Message
commence = from_alpha (body.Chain 3 zero_link (part.Plain TransferCommence))

-- beta's receipt, with the link of the proposal
abbrev pub receipt : List ℕ
receipt = canonical (answer_to beta proposal proposal_text ProposalReceipt)

-- a byte more than a text may have
abbrev pub too_long : List ℕ
too_long = replicate 8193 97

pub record RepliesOfAnswer : Type 0 where
  pub the_receipt : answer_says beta proposal_text (Lines (receipt ++ 10 ∷ []))
  pub another_receiver : answer_says alpha proposal_text (Refuses Receiver)
  pub no_proposal : answer_says beta (canonical commence) (Refuses OtherKind)
  pub a_long_text : answer_says beta too_long (Refuses (Text (canon.Long 8193)))
  pub no_receipt_of_another_gateway : (printed : List ℕ) → ¬ answer_says alpha proposal_text (Lines printed)
  pub not_without_the_newline : ¬ answer_says beta proposal_text (Lines receipt)
  pub not_refused_by_its_receiver : ¬ answer_says beta proposal_text (Refuses Receiver)
  pub not_refused_by_its_kind : ¬ answer_says beta proposal_text (Refuses OtherKind)
  pub no_receipt_of_no_proposal : (printed : List ℕ) → ¬ answer_says beta (canonical commence) (Lines printed)
  pub no_signature_is_read : (fault : JwsFault) → ¬ answer_says beta proposal_text (Refuses (Signature fault))

pub record RepliesOfCheck : Type 0 where
  pub a_proposal : check_says proposal_text (Lines (line (codes "text ") TransferProposal (length proposal_text)))
  pub its_line : line (codes "text ") TransferProposal 242 ≡ codes "text transfer-proposal 242 bytes\n"
  pub a_long_text : check_says too_long (Refuses (Text (canon.Long 8193)))
  pub not_of_another_kind : ¬ check_says proposal_text (Lines (line (codes "text ") TransferCommence (length proposal_text)))
  pub not_as_if_signed : ¬ check_says proposal_text (Lines (line (codes "jws ") TransferProposal (length proposal_text)))
  pub no_receiver_is_asked : ¬ check_says proposal_text (Refuses Receiver)
  pub no_kind_is_refused : ¬ check_says (canonical commence) (Refuses OtherKind)

-- the compact JWS under the key shows this text, and a header that is accepted
abbrev pub Shows : List ℕ → List ℕ → List ℕ → Type 0
Shows key header text = (text ≡ payload_of (jws key header text)) × (header_fault header ≡ None)

-- a text signed under the key, with a header that is accepted, is replied to so
abbrev pub SignedSays : List ℕ → Reply → Type 0
SignedSays text reply = (key header : List ℕ) → Shows key header text → signed_says key (jws key header text) reply

abbrev pub NeverSays : List ℕ → Reply → Type 0
NeverSays text reply = (key header : List ℕ) → ¬ signed_says key (jws key header text) reply

pub record RepliesOfSignedCheck : Type 0 where
  pub a_proposal : (key header : List ℕ) → Shows key header proposal_text → signed_says key (jws key header proposal_text) (Lines (line (codes "jws ") TransferProposal (length (jws key header proposal_text))))
  pub a_long_text : SignedSays too_long (Refuses (Text (canon.Long 8193)))
  pub not_refused_by_another_payload : (key header : List ℕ) → Shows key header proposal_text → (fault : CanonFault) → ¬ signed_says key (jws key header proposal_text) (Refuses (Text fault))
  pub not_as_if_unsigned : (key text : List ℕ) → ¬ signed_says key text (Lines (line (codes "text ") TransferProposal (length text)))
  pub no_receiver_is_asked : NeverSays proposal_text (Refuses Receiver)
  pub no_kind_is_refused : NeverSays proposal_text (Refuses OtherKind)
