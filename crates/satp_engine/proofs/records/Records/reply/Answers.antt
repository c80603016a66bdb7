use Rattle.std.proofs.Common.{refl}
use Rattle.satp_log.specs.Journals.{party_of}
use Rattle.satp_engine.proofs.Carrying.{chain-of, recover-is, update-is}
use Rattle.satp_engine.proofs.records.Records.reply.Goals as goal

pub update-requires-clause-chain : goal.update-requires-clause-chain
update-requires-clause-chain c = chain-of c.args.self.now c.args.session c.state-in-Update.result.now c.chain-chain-in-Update.result.now c.requires.kept c.state-in-Update.ensures c.chain-chain-in-Update.ensures

pub returns-in_ok-text-in-Recover-clause-reply : goal.returns-in_ok-text-in-Recover-clause-reply
returns-in_ok-text-in-Recover-clause-reply c = λ last there.
    recover-is c.args.self.now.log c.args.session c.args.replying c.state.result.now last c.state.ensures there c.chain-chain.result.now c.in_ok-text-in-Recover.text c.in-Recover.is c.chain-chain.ensures
    (c.in_ok-text-in-Recover.ensures (party_of c.args.self.now.log.setup) refl)

pub returns-in_ok-text-in-Update-clause-reply : goal.returns-in_ok-text-in-Update-clause-reply
returns-in_ok-text-in-Update-clause-reply c = λ last there.
    update-is c.args.self.now.log c.args.session c.args.replying c.state-in-Update.result.now last c.state-in-Update.ensures there c.chain-chain-in-Update.result.now c.in-Update.given c.in_ok-text-in-Update.text c.in-Update.is c.chain-chain-in-Update.ensures
    (c.in_ok-text-in-Update.ensures (party_of c.args.self.now.log.setup) refl)
