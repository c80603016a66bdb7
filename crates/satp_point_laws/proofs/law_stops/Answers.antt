use Rattle.satp_point_laws.proofs.StopLaw.{points-end, points-reopen, points-reopen-end, points-rest, points-tell}
use Rattle.satp_point_laws.proofs.law_stops.Goals as goal

pub returns-clause-rests : goal.returns-clause-rests
returns-clause-rests c = points-rest

pub returns-clause-rests_end : goal.returns-clause-rests_end
returns-clause-rests_end c = points-end

pub returns-clause-told : goal.returns-clause-told
returns-clause-told c = points-tell

pub returns-clause-reopened : goal.returns-clause-reopened
returns-clause-reopened c = points-reopen

pub returns-clause-reopened_end : goal.returns-clause-reopened_end
returns-clause-reopened_end c = points-reopen-end
