use Rattle.satp_bench_laws.proofs.CallLaw.{calls-go-by-bench}
use Rattle.satp_bench_laws.proofs.StopCallLaw.{stops-go-by-bench}
use Rattle.satp_bench_laws.proofs.law_calls.Goals as goal

pub returns-clause-whole : goal.returns-clause-whole
returns-clause-whole c = calls-go-by-bench

pub returns-clause-stopped : goal.returns-clause-stopped
returns-clause-stopped c = stops-go-by-bench
