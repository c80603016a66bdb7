use Rattle.satp_bench_laws.proofs.OpeningLaw.{openings-work}
use Rattle.satp_bench_laws.proofs.law_openings.Goals as goal

pub returns : goal.returns
returns c = openings-work
