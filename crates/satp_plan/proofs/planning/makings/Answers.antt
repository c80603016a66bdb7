use Rattle.std.proofs.Common.{subst, sym}
use Rattle.std.specs.Option.{option_copied}
use Rattle.satp_chain.specs.Chained.{tale_of}
use Rattle.satp_plan.specs.Outlines.{FitsTale}
use Rattle.satp_plan.specs.Plans.{after_taken}
use Rattle.satp_plan.proofs.Makings.{formed-making, making-of, making-pushed}
use Rattle.satp_plan.proofs.planning.makings.Goals as goal

pub made-requires : goal.made-requires
made-requires c =
    let chain = after_taken c.args.chain.now (option_copied c.args.taken) in
    let f : FitsTale (tale_of chain) c.part-item.result = subst (FitsTale (tale_of chain)) (sym c.part-item.is) (c.requires.fitting c.loop-part.part-index c.part-item.result c.loop-part-test.true) in
    formed-making chain c.args.key.now c.part-item.result c.in_ok-signed.signed f c.in_ok-signed.ensures.next

pub loop-part-preserved : goal.loop-part-preserved
loop-part-preserved c =
    let chain = after_taken c.args.chain.now (option_copied c.args.taken) in
    let f : FitsTale (tale_of chain) c.part-item.result = subst (FitsTale (tale_of chain)) (sym c.part-item.is) (c.requires.fitting c.loop-part.part-index c.part-item.result c.loop-part-test.true) in
    let made = c.in_ok-made.field-0 in
    let h = making-pushed c.args.session chain c.args.key.now c.args.parts.now c.loop-part.part-index c.loop-part.makings.items c.push.new.self.items made
    c.part-item.result c.loop-part-test.true c.part-item.is c.in_ok-made.ensures.part c.loop-part.invariant.parts c.loop-part.invariant.made c.in_ok-push.ensures.items
    (making-of c.args.session chain c.args.key.now c.part-item.result c.in_ok-signed.signed made f.0 c.in_ok-signed.ensures.next c.in_ok-signed.ensures.follows c.in_ok-made.ensures.part c.in_ok-made.ensures.signed c.in_ok-made.ensures.payload c.in_ok-made.ensures.reply) in
    record { parts = h.0; made = h.1 }
