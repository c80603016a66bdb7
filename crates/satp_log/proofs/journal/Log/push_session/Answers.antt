use Rattle.std.proofs.Common.{subst}
use Rattle.satp_base.specs.declared.message.Role.TheVariants.{Origin, Recipient}
use Rattle.satp_log.specs.Logged.{Enters, LogState}
use Rattle.satp_log.proofs.Places.{entered-state}
use Rattle.satp_log.proofs.PushLemmas.{accepted_with, session-pushed, started_with}
use Rattle.satp_log.proofs.journal.Log.push_session.Goals as goal

pub returns-in-Origin-clause-holds : goal.returns-in-Origin-clause-holds
returns-in-Origin-clause-holds c = λ setup xs log h.
    let enters = subst (λ (l : LogState). Enters c.args.self.now c.args.session c.args.state (started_with Origin l) (accepted_with Origin l) c.enter-in-Origin.new.self) c.enter.view_is c.enter-in-Origin.ensures in
    session-pushed setup xs c.args.self.now c.enter-in-Origin.new.self c.args.session c.args.role Origin c.args.terms c.args.state log h c.requires.new c.requires.proposed c.requires.count c.requires.role c.in-Origin.is enters

pub returns-in-Origin-clause-state : goal.returns-in-Origin-clause-state
returns-in-Origin-clause-state c = entered-state c.args.self.now c.enter-in-Origin.new.self c.args.session c.args.state _ _ c.requires.new c.enter-in-Origin.ensures

pub returns-in-Recipient-clause-holds : goal.returns-in-Recipient-clause-holds
returns-in-Recipient-clause-holds c = λ setup xs log h.
    let enters = subst (λ (l : LogState). Enters c.args.self.now c.args.session c.args.state (started_with Recipient l) (accepted_with Recipient l) c.enter-in-Recipient-2.new.self) c.enter-in-Recipient.view_is c.enter-in-Recipient-2.ensures in
    session-pushed setup xs c.args.self.now c.enter-in-Recipient-2.new.self c.args.session c.args.role Recipient c.args.terms c.args.state log h c.requires.new c.requires.proposed c.requires.count c.requires.role c.in-Recipient.is enters

pub returns-in-Recipient-clause-state : goal.returns-in-Recipient-clause-state
returns-in-Recipient-clause-state c = entered-state c.args.self.now c.enter-in-Recipient-2.new.self c.args.session c.args.state _ _ c.requires.new c.enter-in-Recipient-2.ensures
