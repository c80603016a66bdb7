use Rattle.std.proofs.Common.{◌∙◌, [], ap, sym, subst}
use Rattle.satp_base.specs.Verdicts.{ChainState, IsOfSession, verdict_on}
use Rattle.satp_base.specs.declared.name.Name.{Name}
use Rattle.satp_base.specs.declared.session.SessionId.{SessionId}
use Rattle.satp_chain.specs.Chained.{Chained, state_of}
use Rattle.satp_log.specs.Journals.{party_of}
use Rattle.satp_records.specs.declared.stored.Setup.{Setup}
use Rattle.satp_sides.specs.Calls.{chain_of}
use Rattle.satp_decisions.proofs.Found.{state-is}
use Rattle.satp_decisions.proofs.on_chain.verdict.Goals as goal

pub check-requires : goal.check-requires
check-requires c =
    let (setup, xs, h) = c.requires.holds in
    let state = c.in-Some.ensures.found setup xs h in
    subst (λ (s : SessionId). IsOfSession s c.args.signed.now.message) (sym (ap (λ (x : Chained). x.session) c.chain.ensures ∙ state.session)) c.requires.of_chain

pub returns-in-Some : goal.returns-in-Some
returns-in-Some c = λ setup xs h.
    c.check.ensures.verdict ∙ ap (λ (x : ChainState). verdict_on x c.args.signed.now.message c.args.signed.now.text) (state-is (party_of setup) xs c.args.signed.now.message.session c.in-Some.state.now c.chain.result.now (c.in-Some.ensures.found setup xs h) c.chain.ensures)

pub returns-in_ok-chain-in-None : goal.returns-in_ok-chain-in-None
returns-in_ok-chain-in-None c = λ setup xs h.
    let p = party_of setup in
    let s = c.args.signed.now.message.session in
    let empty = λ (n : Name). let x : Chained = record { session = s; recipient = n; kept = [] } in state_of x in
    c.check-in-None.ensures.verdict ∙ ap (λ (x : ChainState). verdict_on x c.args.signed.now.message c.args.signed.now.text)
    (ap state_of c.in_ok-chain-in-None.ensures ∙ ap (λ (x : Setup). empty x.name) (c.setup.ensures ∙ h.setup_is) ∙ sym (ap (chain_of p s) (c.in-None.ensures.found setup xs h)))
