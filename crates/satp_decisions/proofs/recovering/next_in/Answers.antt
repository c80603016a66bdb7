use Rattle.std.proofs.Common.{◌∙◌, sym}
use Rattle.satp_decisions.proofs.RecoverLemmas.{read-chain, read-late, read-next, read-other}
use Rattle.satp_decisions.proofs.recovering.next_in.Goals as goal

pub returns-then-not-is_of_chain : goal.returns-then-not-is_of_chain
returns-then-not-is_of_chain c = λ setup xs h.
    read-other c.args.log.now setup xs h c.args.session c.key.result.now c.args.text.now c.in-Ok.entry c.key.ensures c.in-Ok.ensures.own (sym (c.is_of_chain.ensures setup xs h) ∙ c.if-not-is_of_chain.true)

pub verdict-requires-clause-of_chain : goal.verdict-requires-clause-of_chain
verdict-requires-clause-of_chain c =
    let (setup, xs, h) = c.requires.holds in
    read-chain c.args.log.now setup xs h c.args.session c.key.result.now c.args.text.now c.in-Ok.entry c.key.ensures c.in-Ok.ensures.own (sym (c.is_of_chain.ensures setup xs h) ∙ c.if-not-is_of_chain.false)

pub returns-in-Next : goal.returns-in-Next
returns-in-Next c = λ setup xs h.
    read-next c.args.log.now setup xs h c.args.session c.key.result.now c.args.text.now c.in-Ok.entry c.key.ensures c.in-Ok.ensures.own (sym (c.is_of_chain.ensures setup xs h) ∙ c.if-not-is_of_chain.false)
    c.in_ok-verdict.field-0 (c.in_ok-verdict.ensures setup xs h) c.in-Next.is

pub returns-in_default : goal.returns-in_default
returns-in_default c = λ setup xs h.
    read-late c.args.log.now setup xs h c.args.session c.key.result.now c.args.text.now c.in-Ok.entry c.key.ensures c.in-Ok.ensures.own (sym (c.is_of_chain.ensures setup xs h) ∙ c.if-not-is_of_chain.false)
    c.in_ok-verdict.field-0 (c.in_ok-verdict.ensures setup xs h) c.in_default.not-Next
