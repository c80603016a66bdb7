use Rattle.satp_stops.proofs.Points.{stops_rest, steps_rest, stops_leave, steps_end}
use Rattle.satp_stops.proofs.Reopening.{points_stay, points_end}
use Rattle.satp_stops.proofs.Telling.{steps_tell}
use Rattle.satp_stops.proofs.law_stops.Goals as goal

pub returns-clause-rests : goal.returns-clause-rests
returns-clause-rests c = stops_rest

pub returns-clause-rests_end : goal.returns-clause-rests_end
returns-clause-rests_end c = steps_rest

pub returns-clause-reopened : goal.returns-clause-reopened
returns-clause-reopened c = points_stay

pub returns-clause-reopened_end : goal.returns-clause-reopened_end
returns-clause-reopened_end c = points_end

pub returns-clause-each : goal.returns-clause-each
returns-clause-each c = stops_leave

pub returns-clause-end : goal.returns-clause-end
returns-clause-end c = steps_end

pub returns-clause-told : goal.returns-clause-told
returns-clause-told c = steps_tell
