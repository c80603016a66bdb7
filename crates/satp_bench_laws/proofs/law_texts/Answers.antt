use Rattle.satp_bench_laws.proofs.TextLaw.{broken-stays, texts-are-calls}
use Rattle.satp_bench_laws.proofs.law_texts.Goals as goal

pub returns-clause-calls : goal.returns-clause-calls
returns-clause-calls c = texts-are-calls

pub returns-clause-broken : goal.returns-clause-broken
returns-clause-broken c = broken-stays
