use Rattle.std.proofs.Common.{◌∙◌, ap}
use Rattle.satp_log.specs.Journals.{party_of}
use Rattle.satp_decisions.proofs.Found.{refuses-none, refuses-receiver, refuses-strange}
use Rattle.satp_decisions.proofs.addressed.addressed.Goals as goal

pub returns-then-not-is_addressed-clause-tests : goal.returns-then-not-is_addressed-clause-tests
returns-then-not-is_addressed-clause-tests c = λ setup xs h.
    refuses-receiver (party_of setup) (party_of c.setup.result.now) xs c.args.message.now c.is_addressed.result c.is_addressed.ensures (ap party_of (c.setup.ensures ∙ h.setup_is)) c.if-not-is_addressed.true

pub returns-then-is_strange-clause-tests : goal.returns-then-is_strange-clause-tests
returns-then-is_strange-clause-tests c = λ setup xs h.
    refuses-strange (party_of setup) (party_of c.setup.result.now) xs c.args.message.now c.is_addressed.result c.is_strange.result c.is_addressed.ensures (ap party_of (c.setup.ensures ∙ h.setup_is)) c.if-not-is_addressed.false
    (c.is_strange.ensures setup xs h) c.if-is_strange.true

pub returns-clause-tests : goal.returns-clause-tests
returns-clause-tests c = λ setup xs h.
    refuses-none (party_of setup) (party_of c.setup.result.now) xs c.args.message.now c.is_addressed.result c.is_strange.result c.is_addressed.ensures (ap party_of (c.setup.ensures ∙ h.setup_is)) c.if-not-is_addressed.false
    (c.is_strange.ensures setup xs h) c.if-is_strange.false
