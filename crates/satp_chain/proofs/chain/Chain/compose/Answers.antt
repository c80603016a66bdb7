use Rattle.std.proofs.Common.{◌≡◌, ◌∙◌, arith, ap, subst}
use Rattle.satp_base.specs.Tales.{IsTale}
use Rattle.satp_base.proofs.TaleTable.{tale-short}
use Rattle.satp_base.specs.Verdicts.{next_message}
use Rattle.satp_base.proofs.VerdictLemmas.{next_follows}
use Rattle.satp_chain.specs.Chained.{next_signed, state_of, tale_of}
use Rattle.satp_chain.proofs.ChainedLemmas.{composed, kinds_long, next_formed, signed_follows, signed_next}
use Rattle.satp_chain.proofs.chain.Chain.compose.Goals as goal

pub overflow_add-length : goal.overflow_add-length
overflow_add-length c = omega (arith, c.length-length.ensures.length, tale-short _ c.length-length.ensures.tale)

pub write_signed-requires : goal.write_signed-requires
write_signed-requires c =
    let is : c.message.result ≡ next_message (state_of c.args.self.now) c.args.part = composed c.args.self.now c.self.inside.tale c.length-length.result c.link.result c.args.part c.message.result (c.self.invariant.0 ∙ ap tale_of c.self.view_is) c.length-length.ensures.length c.link.ensures c.message.ensures in
    next_formed c.args.self.now c.args.part c.message.result c.requires.tale c.requires.formed is

pub returns-clause-next : goal.returns-clause-next
returns-clause-next c =
    let is : c.message.result ≡ next_message (state_of c.args.self.now) c.args.part = composed c.args.self.now c.self.inside.tale c.length-length.result c.link.result c.args.part c.message.result (c.self.invariant.0 ∙ ap tale_of c.self.view_is) c.length-length.ensures.length c.link.ensures c.message.ensures in
    signed_next c.args.self.now c.args.key.now c.args.part c.message.result c.write_signed.result is c.write_signed.ensures

pub returns-clause-follows : goal.returns-clause-follows
returns-clause-follows c =
    let is : c.message.result ≡ next_message (state_of c.args.self.now) c.args.part = composed c.args.self.now c.self.inside.tale c.length-length.result c.link.result c.args.part c.message.result (c.self.invariant.0 ∙ ap tale_of c.self.view_is) c.length-length.ensures.length c.link.ensures c.message.ensures in
    let next = signed_next c.args.self.now c.args.key.now c.args.part c.message.result c.write_signed.result is c.write_signed.ensures in
    signed_follows c.args.self.now c.args.key.now c.args.part c.write_signed.result next
    (next_follows (state_of c.args.self.now) c.args.part (next_signed c.args.self.now c.args.key.now c.args.part).text (kinds_long c.args.self.now) (subst IsTale (c.self.invariant.0 ∙ ap tale_of c.self.view_is) c.self.invariant.1) c.requires.formed c.requires.tale)
