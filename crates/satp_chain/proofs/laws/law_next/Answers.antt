use Rattle.std.proofs.Common.{ap, refl, ◌∙◌}
use Rattle.satp_base.specs.Signatures.{own}
use Rattle.satp_base.proofs.VerdictLemmas.{follows_message, next_follows}
use Rattle.satp_chain.specs.Chained.{next_signed, state_of}
use Rattle.satp_chain.proofs.ChainedLemmas.{kinds_long}
use Rattle.satp_chain.proofs.laws.law_next.Goals as goal

pub returns-clause-one : goal.returns-clause-one
returns-clause-one c = λ chain signed key h.
    let is = follows_message (state_of chain) signed.message signed.text h in
    (is, λ text. text ∙ ap (own key) is)

pub returns-clause-next : goal.returns-clause-next
returns-clause-next c = λ chain key part tale formed more.
    (next_follows (state_of chain) part (next_signed chain key part).text (kinds_long chain) tale formed more, refl)
