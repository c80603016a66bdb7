use Rattle.std.proofs.Common.{sym, ◌∙◌}
use Rattle.satp_chain.proofs.LawLemmas.{chain_front, one_list}
use Rattle.satp_chain.proofs.laws.law_chains.Goals as goal

pub returns-clause-texts : goal.returns-clause-texts
returns-clause-texts c = λ session recipient key parts texts others first second. first.each ∙ sym second.each

pub returns-clause-parts : goal.returns-clause-parts
returns-clause-parts c = one_list

pub returns-clause-prefixes : goal.returns-clause-prefixes
returns-clause-prefixes c = chain_front
