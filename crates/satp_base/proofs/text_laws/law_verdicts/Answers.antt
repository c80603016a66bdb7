use Rattle.satp_base.proofs.VerdictLemmas.{extends-by_tale, extends-tale, follows_message, follows_tale, next_follows}
use Rattle.satp_base.proofs.WholeLemmas.{looks_at_the_last_two}
use Rattle.satp_base.proofs.text_laws.law_verdicts.Goals as goal

pub returns-clause-tales : goal.returns-clause-tales
returns-clause-tales c = λ tale kind whole. (extends-tale tale kind whole, extends-by_tale tale kind whole)

pub returns-clause-one : goal.returns-clause-one
returns-clause-one c = λ chain m text h. (follows_message chain m text h, λ tale. follows_tale chain m text tale h)

pub returns-clause-next : goal.returns-clause-next
returns-clause-next c = next_follows

pub returns-clause-whole : goal.returns-clause-whole
returns-clause-whole c = looks_at_the_last_two
