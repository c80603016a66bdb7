-- A text that a gateway is handed.
use Rattle.std.proofs.Common.{◌≡◌, Err, sym, subst}
use Rattle.satp_gateway.specs.Handling.{HearsRecover, reply_of}
use Rattle.satp_points.specs.Answers.{Stays, Unchanged}
use Rattle.satp_points.specs.declared.fault.Refused.TheVariants as refused
use Rattle.satp_runs.proofs.Reading.{heard-answers}
use Rattle.satp_memory.specs.Steps.{told_of}
use Rattle.satp_memory.proofs.Keeping.{calls_keep}
use Rattle.satp_drill_runs.specs.Benches.{Bench, Stage, answered}
use Rattle.satp_bench_laws.specs.Seats.{ShowsAt, Sits, SitsBroken, SitsBy, SitsOpen, tells_at}
use Rattle.satp_bench_laws.specs.Texts.{BrokenStays, TextsAreCalls}
use Rattle.satp_bench_laws.proofs.CallLaw.{sits-same}
use Rattle.satp_bench_laws.proofs.Stages.{broken-answer, broken-stage}

pub texts-are-calls : TextsAreCalls
texts-are-calls st a b g setup x kind m text e limit old new given sits is may was =
    let open_ : SitsOpen st a b g setup x.world limit old = subst (λ (bench : Bench). SitsBy st a b g setup x.world bench old) is sits in
    record {
      answers = heard-answers st x.world g old.gateway new.gateway (tells_at old) (tells_at new) setup (told_of old.disk) open_.opened.stands a b open_.opened.reached m text e may given was.handled;
      beside = was.beside;
      ledger = was.ledger;
      found = was.found;
    }

pub broken-stays : BrokenStays
broken-stays st a b g setup x kind text call old new given sits is was =
    let down : SitsBroken st a b g setup x.world old = subst (λ (bench : Bench). SitsBy st a b g setup x.world bench old) is sits in
    let answer : reply_of given ≡ Err refused.Broken = was.handled.breaking.found down.broken in
    let stays : Stays old.gateway new.gateway (tells_at old) (tells_at new) = subst (Unchanged (HearsRecover old.gateway text) old.gateway new.gateway (tells_at old) (tells_at new)) answer was.handled.unchanged in
    let now = sits-same st a b g setup x.world old new (calls_keep kind old.book new.book old.disk new.disk was.beside).disk stays down in (
      subst (λ (y : Stage). Sits st a b g setup y new) (sym (broken-stage st x g call is)) (subst (λ (bench : Bench). SitsBy st a b g setup x.world bench new) (sym is) now),
      subst (λ (bench : Bench). ShowsAt bench (answered st x g call) (reply_of given)) (sym is) (broken-answer st x g call is, answer),
    )
