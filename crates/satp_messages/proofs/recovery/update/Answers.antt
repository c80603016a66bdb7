use Rattle.satp_chain.specs.Chained.{texts_in}
use Rattle.satp_messages.proofs.MessageLemmas.{tale-long, update-formed, update-is}
use Rattle.satp_messages.proofs.recovery.update.Goals as goal

pub signed-requires : goal.signed-requires
signed-requires c =
    update-formed c.args.chain.now c.args.log.now.setup.key c.args.given c.length.result c.in_ok-entries.entries c.requires.chain c.requires.few
    (tale-long c.args.chain.now c.tale.result.now c.length.result c.tale.ensures c.length.ensures.length) c.in_ok-entries.ensures

pub returns : goal.returns
returns c = λ p who.
    update-is c.args.log.now.setup p c.args.session c.args.given c.length.result (texts_in c.args.chain.now) c.in_ok-entries.entries c.signed.result who
    (tale-long c.args.chain.now c.tale.result.now c.length.result c.tale.ensures c.length.ensures.length) c.in_ok-entries.ensures c.signed.ensures
