use Rattle.std.proofs.Common.{None, refl}
use Rattle.satp_decisions.specs.Tests.{HasEntry}
use Rattle.satp_decisions.proofs.RecoverLemmas.{anyhow, other-entry}
use Rattle.satp_decisions.proofs.hearing.by_body.Goals as goal

pub returns-in-Recover-clause-decides : goal.returns-in-Recover-clause-decides
returns-in-Recover-clause-decides c = λ e of. c.recover.ensures.decides e

pub returns-in-Update-clause-decides : goal.returns-in-Update-clause-decides
returns-in-Update-clause-decides c = λ e of. c.update.ensures.decides e of

pub returns-in-Success-clause-decides : goal.returns-in-Success-clause-decides
returns-in-Success-clause-decides c = λ e of. c.succeed.ensures.decides e

pub returns-clause-decides : goal.returns-clause-decides
returns-clause-decides c = λ e of. c.on_chain.ensures.decides e

pub returns-in-Recover-clause-entry : goal.returns-in-Recover-clause-entry
returns-in-Recover-clause-entry c =
    let key = c.args.log.now.setup.key in
    anyhow c.recover.result (HasEntry key c.args.heard.message.body) (other-entry key c.args.heard.message.body _ c.in-Recover.is (None, refl))

pub returns-in-Success-clause-entry : goal.returns-in-Success-clause-entry
returns-in-Success-clause-entry c =
    let key = c.args.log.now.setup.key in
    anyhow c.succeed.result (HasEntry key c.args.heard.message.body) (other-entry key c.args.heard.message.body _ c.in-Success.is (None, refl))

pub returns-clause-entry : goal.returns-clause-entry
returns-clause-entry c =
    let key = c.args.log.now.setup.key in
    anyhow c.on_chain.result (HasEntry key c.args.heard.message.body) (other-entry key c.args.heard.message.body _ c.in-Chain.is (None, refl))
