-- What a chain says of messages.
use Rattle.std.specs.Prelude.{◌≡◌, ℕ, List, [], ◌∷◌, codes}
use Rattle.satp_base.specs.Chains.{link_of, zero_link}
use Rattle.satp_base.specs.Verdicts.{ChainState, IsNextOn, IsOfSession, verdict_on}
use Rattle.satp_base.specs.declared.message.Body.TheVariants as body
use Rattle.satp_base.specs.declared.message.Kind.TheVariants.{TransferProposal, ProposalReceipt, TransferCommence}
use Rattle.satp_base.specs.declared.message.Link.{Link}
use Rattle.satp_base.specs.declared.message.Message.{Message}
use Rattle.satp_base.specs.declared.message.Part.{Part}
use Rattle.satp_base.specs.declared.message.Part.TheVariants.{Proposal, Plain}
use Rattle.satp_base.specs.declared.name.Name.{Name}
use Rattle.satp_base.specs.declared.verdict.Verdict.TheVariants.{Next, Again, Gap, Other, WrongPrevious, WrongSender, OffTale}
use Rattle.satp_examples.specs.Samples.{alpha, alpha_1, alpha_2, beta, quarter}

-- the chain of no text, and that of one
abbrev pub empty : ChainState
empty = record { session = alpha_1; recipient = beta; tale = []; texts = [] }

abbrev pub one : ChainState
one = record { session = alpha_1; recipient = beta; tale = TransferProposal ∷ []; texts = codes "a" ∷ [] }

abbrev pub said : Name → Name → ℕ → Link → Part → Message
said sender receiver place previous part = record { session = alpha_1; sender = sender; receiver = receiver; body = body.Chain place previous part }

abbrev pub proposal : Message
proposal = said alpha beta 1 zero_link (Proposal quarter)

pub record VerdictsOfChains : Type 0 where
  pub next : (text : List ℕ) → verdict_on empty proposal text ≡ Next
  pub again : verdict_on one proposal (codes "a") ≡ Again 1
  pub another : verdict_on one proposal (codes "b") ≡ Other 1 (link_of (codes "a"))
  pub too_far : (text : List ℕ) → verdict_on empty (said beta alpha 2 zero_link (Plain ProposalReceipt)) text ≡ Gap 0
  pub from_the_other : (text : List ℕ) → verdict_on empty (said beta alpha 1 zero_link (Proposal quarter)) text ≡ WrongSender
  pub after_another : (text : List ℕ) → verdict_on empty (said alpha beta 1 (record { 0 = [] }) (Proposal quarter)) text ≡ WrongPrevious zero_link
  pub of_another_kind : (text : List ℕ) → verdict_on empty (said alpha beta 1 zero_link (Plain TransferCommence)) text ≡ OffTale 1

pub record WhatIsNext : Type 0 where
  pub of_the_session : IsOfSession alpha_1 proposal
  pub not_of_another : ¬ IsOfSession alpha_2 proposal
  pub not_without_terms : ¬ IsOfSession alpha_1 (said alpha beta 1 zero_link (Plain TransferProposal))
  pub the_proposal : (text : List ℕ) → IsNextOn empty proposal text
  -- for itself, and not for the recipient
  pub not_for_itself : (text : List ℕ) → ¬ IsNextOn empty (said alpha alpha 1 zero_link (Proposal quarter)) text
