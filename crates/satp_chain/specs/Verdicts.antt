-- What a chain says of a message with the text that it was read from, and which of them it takes.
pub use Rattle.satp_base.specs.Verdicts.{IsChainBody}
use Rattle.satp_base.specs.Verdicts.{IsNextOn, IsOfSession, verdict_on}
use Rattle.satp_base.specs.declared.verdict.Verdict.{Verdict}
use Rattle.satp_chain.specs.Chained.{Chained, state_of}
use Rattle.satp_chain.specs.declared.signed.Signed.{Signed}

abbrev pub verdict : Chained → Signed → Verdict
verdict chain signed = verdict_on (state_of chain) signed.message signed.text

-- a formed chain message of this session
abbrev pub IsOfChain : Chained → Signed → Type 0
IsOfChain chain signed = IsOfSession chain.session signed.message

-- the text is the next one of the chain, but for its signature
abbrev pub Follows : Chained → Signed → Type 0
Follows chain signed = IsNextOn (state_of chain) signed.message signed.text
