-- Messages and their canonical texts, and forms that are no message's.
use Rattle.std.specs.Prelude.{ℕ, List, [], ◌∷◌, codes, replicate}
use Rattle.satp_base.specs.Canonical.{IsText}
use Rattle.satp_base.specs.Chains.{zero_link}
use Rattle.satp_base.specs.Forms.{IsBody, IsLink, IsMessage, IsPlace, IsPart}
use Rattle.satp_base.specs.declared.message.Body.{Body}
use Rattle.satp_base.specs.declared.message.Body.TheVariants as body
use Rattle.satp_base.specs.declared.message.Kind.TheVariants.{TransferProposal, TransferCommence, Reject, Recover}
use Rattle.satp_base.specs.declared.message.Link.{Link}
use Rattle.satp_base.specs.declared.message.Message.{Message}
use Rattle.satp_base.specs.declared.message.Part.TheVariants as part
use Rattle.satp_base.specs.declared.message.Reason.TheVariants as reason
use Rattle.satp_examples.specs.Samples.{alpha, alpha_1, beta, quarter}

abbrev pub from_alpha : Body → Message
from_alpha b = record { session = alpha_1; sender = alpha; receiver = beta; body = b }

abbrev pub link_of_bytes : List ℕ → Link
link_of_bytes bytes = record { 0 = bytes }

pub record FormsOfMessages : Type 0 where
  pub a_proposal : IsMessage (from_alpha (body.Chain 1 zero_link (part.Proposal quarter)))
  pub a_commence : IsMessage (from_alpha (body.Chain 3 zero_link (part.Plain TransferCommence)))
  pub a_reject : IsMessage (from_alpha (body.Chain 11 zero_link (part.Reject reason.Aborted)))
  pub a_recover_of_nothing : IsMessage (from_alpha (body.Recover 0 zero_link))
  pub an_update : IsMessage (from_alpha (body.Update 11 (codes "a.b-_9" ∷ replicate 2048 65 ∷ [])))
  -- places from 1 to 11, lengths up to 11
  pub no_place_0 : ¬ IsPlace 0
  pub no_place_12 : ¬ IsMessage (from_alpha (body.Chain 12 zero_link (part.Plain TransferCommence)))
  pub no_length_12 : ¬ IsMessage (from_alpha (body.Recover 12 zero_link))
  -- a proposal has terms and a reject has a reason, and a message of recovery stands in no chain
  pub no_plain_proposal : ¬ IsPart (part.Plain TransferProposal)
  pub no_plain_reject : ¬ IsPart (part.Plain Reject)
  pub no_recover_in_a_chain : ¬ IsPart (part.Plain Recover)
  -- 32 bytes
  pub no_shorter_link : ¬ IsLink (link_of_bytes (replicate 31 0))
  pub no_link_past_a_byte : ¬ IsLink (link_of_bytes (256 ∷ replicate 31 0))
  -- at most two entries, each of 1 to 2,048 bytes of its form
  pub no_third_entry : ¬ IsBody (body.Update 3 (codes "a" ∷ codes "b" ∷ codes "c" ∷ []))
  pub no_empty_entry : ¬ IsBody (body.Update 3 ([] ∷ []))
  pub no_longer_entry : ¬ IsBody (body.Update 3 (replicate 2049 65 ∷ []))
  pub no_padding_in_an_entry : ¬ IsBody (body.Update 3 (codes "a=" ∷ []))

abbrev pub proposal_text : List ℕ
proposal_text = codes "{\"kind\":\"transfer-proposal\",\"previous\":\"AAAAAAAAAAAAAAAAAAAAAAAAAAAAAAAAAAAAAAAAAAA\",\"receiver\":\"beta\",\"sender\":\"alpha\",\"sequence\":1,\"session\":\"alpha.1\",\"terms\":{\"amount\":250,\"asset\":\"gold\",\"beneficiary\":\"bob\",\"originator\":\"ann\"},\"version\":1}"

pub record TextsOfMessages : Type 0 where
  pub a_proposal : IsText (from_alpha (body.Chain 1 zero_link (part.Proposal quarter))) proposal_text
  pub a_reject : IsText (from_alpha (body.Chain 2 zero_link (part.Reject reason.LedgerTaken))) (codes "{\"kind\":\"reject\",\"previous\":\"AAAAAAAAAAAAAAAAAAAAAAAAAAAAAAAAAAAAAAAAAAA\",\"reason\":\"ledger-taken\",\"receiver\":\"beta\",\"sender\":\"alpha\",\"sequence\":2,\"session\":\"alpha.1\",\"version\":1}")
  pub an_update : IsText (from_alpha (body.Update 2 (codes "a" ∷ codes "b" ∷ []))) (codes "{\"entries\":[\"a\",\"b\"],\"kind\":\"recover-update\",\"length\":2,\"receiver\":\"beta\",\"sender\":\"alpha\",\"session\":\"alpha.1\",\"version\":1}")
  pub a_success : IsText (from_alpha (body.Success 11 zero_link)) (codes "{\"kind\":\"recover-success\",\"last\":\"AAAAAAAAAAAAAAAAAAAAAAAAAAAAAAAAAAAAAAAAAAA\",\"length\":11,\"receiver\":\"beta\",\"sender\":\"alpha\",\"session\":\"alpha.1\",\"version\":1}")
  -- no blank, and no member in another order
  pub no_blank_behind : ¬ IsText (from_alpha (body.Update 0 [])) (codes "{\"entries\":[],\"kind\":\"recover-update\",\"length\":0,\"receiver\":\"beta\",\"sender\":\"alpha\",\"session\":\"alpha.1\",\"version\":1} ")
  pub not_of_another_length : ¬ IsText (from_alpha (body.Update 1 [])) (codes "{\"entries\":[],\"kind\":\"recover-update\",\"length\":0,\"receiver\":\"beta\",\"sender\":\"alpha\",\"session\":\"alpha.1\",\"version\":1}")
  pub not_the_receiver_last : ¬ IsText (from_alpha (body.Update 0 [])) (codes "{\"entries\":[],\"kind\":\"recover-update\",\"length\":0,\"sender\":\"alpha\",\"receiver\":\"beta\",\"session\":\"alpha.1\",\"version\":1}")
