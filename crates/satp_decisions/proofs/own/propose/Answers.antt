use Rattle.satp_log.specs.Journals.{party_of}
use Rattle.satp_decisions.proofs.OwnLemmas.{start-decided, start-full}
use Rattle.satp_decisions.proofs.own.propose.Goals as goal

pub returns-then-started-ge-MOST_SESSIONS-clause-decides : goal.returns-then-started-ge-MOST_SESSIONS-clause-decides
returns-then-started-ge-MOST_SESSIONS-clause-decides c = λ setup xs h formed log none own.
    start-full (party_of setup) xs log c.args.session c.args.terms c.started.result none (c.started.ensures.begun setup xs h) c.if-started-ge-MOST_SESSIONS.true

pub returns-clause-decides : goal.returns-clause-decides
returns-clause-decides c = λ setup xs h formed log none own.
    start-decided (party_of setup) xs log c.args.session c.args.terms c.started.result none own (c.started.ensures.begun setup xs h) c.if-started-ge-MOST_SESSIONS.false
