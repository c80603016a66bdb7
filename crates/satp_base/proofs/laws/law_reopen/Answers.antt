use Rattle.satp_base.proofs.Reopens.{reopen_reads, reopen_leaves, reopen_ends, reopen_rests, restart_leaves}
use Rattle.satp_base.proofs.laws.law_reopen.Goals as goal

pub returns-clause-read : goal.returns-clause-read
returns-clause-read c = reopen_reads

pub returns-clause-each : goal.returns-clause-each
returns-clause-each c = reopen_leaves

pub returns-clause-end : goal.returns-clause-end
returns-clause-end c = reopen_ends

pub returns-clause-rest : goal.returns-clause-rest
returns-clause-rest c = reopen_rests

pub returns-clause-restart : goal.returns-clause-restart
returns-clause-restart c = restart_leaves
