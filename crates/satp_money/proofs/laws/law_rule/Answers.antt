use Rattle.satp_base.proofs.RuleLemmas.{rule-gives}
use Rattle.satp_money.proofs.RuleLaw.{gives-rule, none-order, order-none}
use Rattle.satp_money.proofs.laws.law_rule.Goals as goal

pub returns-clause-answers : goal.returns-clause-answers
returns-clause-answers c = λ b op s t answer new. (rule-gives b op s t answer new, gives-rule b op s t answer new)

pub returns-clause-order : goal.returns-clause-order
returns-clause-order c = λ b op s t entry. (order-none b op s t entry, none-order b op s t entry)
