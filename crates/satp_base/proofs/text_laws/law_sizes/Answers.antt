use Rattle.satp_base.proofs.TextSizes.{chain_texts_are_entries, own-short, payload-shorter}
use Rattle.satp_base.proofs.text_laws.law_sizes.Goals as goal

pub returns-clause-chain : goal.returns-clause-chain
returns-clause-chain c = chain_texts_are_entries

pub returns-clause-own : goal.returns-clause-own
returns-clause-own c = own-short

pub returns-clause-payload : goal.returns-clause-payload
returns-clause-payload c = payload-shorter
