-- The messages of two texts of the examples: alpha's proposal and its commence.
use Rattle.std.proofs.Common.{◌≡◌, List, ℕ, refl, lit≤}
use Rattle.std.specs.Fmt.{digits}
use Rattle.base64.specs.Rfc4648.{encode_symbols}
use Rattle.satp_base.specs.Canonical.{IsText, canonical}
use Rattle.satp_base.specs.Forms.{IsMessage}
use Rattle.satp_base.specs.declared.message.Message.{Message}
use Rattle.satp_base.proofs.ChainLemmas.{zero_formed}
use Rattle.satp_base.proofs.OneText.{one_text}
use Rattle.satp_outcome.specs.Texts.{IsOnly}
use Rattle.satp_examples.specs.Messages.{proposal_text}
use Rattle.satp_examples.specs.Replies.{commence, proposal}

pub proposal_formed : IsMessage proposal
proposal_formed = ((record { low = lit≤ tt; high = lit≤ tt }, tt), zero_formed)

commence_formed : IsMessage commence
commence_formed = ((record { low = lit≤ tt; high = lit≤ tt }, refl), zero_formed)

pub proposal_is : IsText proposal proposal_text
unfolding canonical encode_symbols digits
proposal_is = refl

alone : (m : Message) (text : List ℕ) → IsMessage m → IsText m text → IsOnly text m
alone m text formed is = record { canonical = is; formed = formed; only = λ n other also. one_text n m text also formed other is }

pub the_proposal : IsOnly proposal_text proposal
the_proposal = alone proposal proposal_text proposal_formed proposal_is

pub the_commence : IsOnly (canonical commence) commence
the_commence = alone commence (canonical commence) commence_formed refl

pub only_proposal : (m : Message) → IsOnly proposal_text m → m ≡ proposal
only_proposal m o = the_proposal.only m o.canonical o.formed

pub only_commence : (m : Message) → IsOnly (canonical commence) m → m ≡ commence
only_commence m o = the_commence.only m o.canonical o.formed
