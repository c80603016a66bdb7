use Rattle.std.proofs.Common.{◌≡◌, ◌∙◌, arith, ap, subst, sym}
use Rattle.satp_base.specs.Chains.{link_of}
use Rattle.satp_base.specs.Tales.{IsTale}
use Rattle.satp_base.proofs.TaleTable.{tale-short}
use Rattle.satp_base.specs.Verdicts.{next_message}
use Rattle.satp_base.proofs.VerdictLemmas.{follows_tale, next_follows}
use Rattle.satp_chain.specs.Chained.{next_signed, pushed, state_of, tale_of}
use Rattle.satp_chain.proofs.ChainedLemmas.{composed_after, kinds_long, next_formed, signed_follows, signed_next, tale_pushed}
use Rattle.satp_chain.proofs.chain.Chain.compose_on.Goals as goal

pub overflow_add-place : goal.overflow_add-place
overflow_add-place c = omega (arith, c.length-place.ensures.length, tale-short _ c.length-place.ensures.tale)

pub write_signed-requires : goal.write_signed-requires
write_signed-requires c =
    let is : c.message.result ≡ next_message (state_of (pushed c.args.self.now c.args.taken.now)) c.args.part = composed_after c.args.self.now c.args.taken.now c.self.inside.tale c.length-place.result c.link_of.result c.args.part c.message.result (c.self.invariant.0 ∙ ap tale_of c.self.view_is) c.length-place.ensures.length (c.link_of.ensures ∙ ap link_of c.bytes.ensures) c.message.ensures in
    next_formed (pushed c.args.self.now c.args.taken.now) c.args.part c.message.result c.requires.tale c.requires.formed is

pub returns-clause-next : goal.returns-clause-next
returns-clause-next c =
    let is : c.message.result ≡ next_message (state_of (pushed c.args.self.now c.args.taken.now)) c.args.part = composed_after c.args.self.now c.args.taken.now c.self.inside.tale c.length-place.result c.link_of.result c.args.part c.message.result (c.self.invariant.0 ∙ ap tale_of c.self.view_is) c.length-place.ensures.length (c.link_of.ensures ∙ ap link_of c.bytes.ensures) c.message.ensures in
    signed_next (pushed c.args.self.now c.args.taken.now) c.args.key.now c.args.part c.message.result c.write_signed.result is c.write_signed.ensures

pub returns-clause-follows : goal.returns-clause-follows
returns-clause-follows c =
    let is : c.message.result ≡ next_message (state_of (pushed c.args.self.now c.args.taken.now)) c.args.part = composed_after c.args.self.now c.args.taken.now c.self.inside.tale c.length-place.result c.link_of.result c.args.part c.message.result (c.self.invariant.0 ∙ ap tale_of c.self.view_is) c.length-place.ensures.length (c.link_of.ensures ∙ ap link_of c.bytes.ensures) c.message.ensures in
    let next = signed_next (pushed c.args.self.now c.args.taken.now) c.args.key.now c.args.part c.message.result c.write_signed.result is c.write_signed.ensures in
    signed_follows (pushed c.args.self.now c.args.taken.now) c.args.key.now c.args.part c.write_signed.result next
    (next_follows (state_of (pushed c.args.self.now c.args.taken.now)) c.args.part (next_signed (pushed c.args.self.now c.args.taken.now) c.args.key.now c.args.part).text (kinds_long (pushed c.args.self.now c.args.taken.now)) (subst IsTale (sym (tale_pushed c.args.self.now c.args.taken.now)) (follows_tale (state_of c.args.self.now) c.args.taken.now.message c.args.taken.now.text (subst IsTale (c.self.invariant.0 ∙ ap tale_of c.self.view_is) c.self.invariant.1) c.requires.taken)) c.requires.formed c.requires.tale)
