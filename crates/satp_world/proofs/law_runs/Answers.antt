use Rattle.satp_world.proofs.HistoryLaw.{events-are-safe, events-keep-totals, events-reach, events-run-deals}
use Rattle.satp_world.proofs.law_runs.Goals as goal

pub returns-clause-reach : goal.returns-clause-reach
returns-clause-reach c = events-reach

pub returns-clause-deals : goal.returns-clause-deals
returns-clause-deals c = events-run-deals

pub returns-clause-safe : goal.returns-clause-safe
returns-clause-safe c = events-are-safe

pub returns-clause-totals : goal.returns-clause-totals
returns-clause-totals c = events-keep-totals
