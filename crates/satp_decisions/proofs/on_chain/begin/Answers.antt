use Rattle.satp_log.specs.Journals.{party_of}
use Rattle.satp_decisions.proofs.TakeLemmas.{begin-comes, begin-full}
use Rattle.satp_decisions.proofs.on_chain.begin.Goals as goal

pub returns-then-accepted-ge-MOST_SESSIONS-clause-begins : goal.returns-then-accepted-ge-MOST_SESSIONS-clause-begins
returns-then-accepted-ge-MOST_SESSIONS-clause-begins c = λ setup xs h formed log none gate.
    begin-full (party_of setup) xs log c.args.session c.args.terms none gate c.accepted.result (c.accepted.ensures.begun setup xs h) c.if-accepted-ge-MOST_SESSIONS.true

pub returns-clause-begins : goal.returns-clause-begins
returns-clause-begins c = λ setup xs h formed log none gate.
    begin-comes (party_of setup) xs log c.args.session c.args.terms none gate c.accepted.result (c.accepted.ensures.begun setup xs h) c.if-accepted-ge-MOST_SESSIONS.false
