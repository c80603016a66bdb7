use Rattle.std.proofs.Common.{◌≡◌, List, length, arith, ap, subst, sym, ◌∙◌}
use Rattle.satp_base.specs.Tales.{IsTale}
use Rattle.satp_chain.specs.Chained.{Chained, IsChain, pushed, tale_of}
use Rattle.satp_chain.specs.declared.signed.Signed.{Signed}
use Rattle.satp_chain.proofs.ChainedLemmas.{chain_pushed, kinds_pushed, no_room, push_tale}
use Rattle.satp_chain.proofs.chain.Chain.push.Goals as goal

pub push-requires : goal.push-requires
push-requires c = push_tale c.args.self.now c.args.signed c.self.inside.tale c.kind.result (c.self.invariant.0 ∙ ap tale_of c.self.view_is) c.self.invariant.1 c.kind.ensures c.requires

pub unreachable-requires : goal.unreachable-requires
unreachable-requires c =
    let more = push_tale c.args.self.now c.args.signed c.self.inside.tale c.kind.result (c.self.invariant.0 ∙ ap tale_of c.self.view_is) c.self.invariant.1 c.kind.ensures c.requires in
    no_room c.args.self.now c.self.inside.tale c.kind.result _ _ (c.self.invariant.0 ∙ ap tale_of c.self.view_is) more c.self.invariant.2 c.in-Err.ensures.full (c.self.inside.kept.ok.0 ∙ ap (λ (x : Chained). length x.kept) c.self.view_is)

pub invariant_of-self : goal.invariant_of-self
invariant_of-self c =
    let more = push_tale c.args.self.now c.args.signed c.self.inside.tale c.kind.result (c.self.invariant.0 ∙ ap tale_of c.self.view_is) c.self.invariant.1 c.kind.ensures c.requires in (
      kinds_pushed c.self.inside.kept.items c.push-2.new.self.items c.args.signed c.self.inside.tale c.push.new.self c.kind.result c.self.invariant.0 c.kind.ensures c.push.ensures c.in-Ok.ensures.items,
      subst IsTale (sym c.push.ensures) more,
      omega (arith, c.self.invariant.2, c.in-Ok.ensures.capacity),
    )

pub returns-clause-chain : goal.returns-clause-chain
returns-clause-chain c = λ key held text.
    let new : Chained = record { session = c.self.inside.session; recipient = c.self.inside.recipient; kept = c.push-2.new.self.items } in
    let seen : new ≡ pushed c.args.self.now c.args.signed =
    ap (λ (items : List Signed). let x : Chained = record { session = c.self.inside.session; recipient = c.self.inside.recipient; kept = items } in x) c.in-Ok.ensures.items
    ∙ ap (λ (x : Chained). pushed x c.args.signed) c.self.view_is in
    subst (λ (x : Chained). IsChain x key) (sym seen) (chain_pushed c.args.self.now c.args.signed key c.requires held text)
