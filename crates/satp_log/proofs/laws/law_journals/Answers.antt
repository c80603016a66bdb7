use Rattle.satp_log.proofs.JournalLemmas.{journals-go-on, none-refused, one-journal, one-refused, prefixes}
use Rattle.satp_log.proofs.laws.law_journals.Goals as goal

pub returns-clause-one : goal.returns-clause-one
returns-clause-one c = one-journal

pub returns-clause-none : goal.returns-clause-none
returns-clause-none c = none-refused

pub returns-clause-first : goal.returns-clause-first
returns-clause-first c = one-refused

pub returns-clause-prefixes : goal.returns-clause-prefixes
returns-clause-prefixes c = prefixes

pub returns-clause-more : goal.returns-clause-more
returns-clause-more c = journals-go-on
