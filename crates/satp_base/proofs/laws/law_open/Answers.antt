use Rattle.satp_base.proofs.Opens.{open_begins, open_leaves, open_keeps, open_stays_short, open_ends}
use Rattle.satp_base.proofs.laws.law_open.Goals as goal

pub returns-clause-begins : goal.returns-clause-begins
returns-clause-begins c = open_begins

pub returns-clause-each : goal.returns-clause-each
returns-clause-each c = open_leaves

pub returns-clause-append : goal.returns-clause-append
returns-clause-append c = open_keeps

pub returns-clause-short : goal.returns-clause-short
returns-clause-short c = open_stays_short

pub returns-clause-end : goal.returns-clause-end
returns-clause-end c = open_ends
