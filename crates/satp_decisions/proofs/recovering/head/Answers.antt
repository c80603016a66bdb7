use Rattle.std.proofs.Common.{◌∙◌, ap, sym}
use Rattle.satp_base.specs.Chains.{head_of}
use Rattle.satp_chain.specs.Chained.{Chained, texts_in}
use Rattle.satp_log.specs.Journals.{party_of}
use Rattle.satp_decisions.proofs.Slots.{chain-unnamed, texts-of}
use Rattle.satp_decisions.proofs.recovering.head.Goals as goal

pub returns-in-Some-clause-head : goal.returns-in-Some-clause-head
returns-in-Some-clause-head c = λ setup xs h formed log.
    c.head.ensures.head ∙ ap (λ (x : Chained). head_of (texts_in x)) c.chain.ensures ∙ ap head_of (sym (texts-of (party_of setup) xs c.args.session _ (c.in-Some.ensures.found setup xs h).slot))

pub returns-in-None-clause-head : goal.returns-in-None-clause-head
returns-in-None-clause-head c = λ setup xs h formed log. ap head_of (sym (chain-unnamed (party_of setup) xs c.args.session log (c.in-None.ensures.found setup xs h)))
