use Rattle.satp_keeper.proofs.Reading.{books_one, none_refused, goes_on}
use Rattle.satp_keeper.proofs.laws.law_kept.Goals as goal

pub returns-clause-one : goal.returns-clause-one
returns-clause-one c = books_one

pub returns-clause-none : goal.returns-clause-none
returns-clause-none c = none_refused

pub returns-clause-on : goal.returns-clause-on
returns-clause-on c = goes_on
