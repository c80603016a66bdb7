use Rattle.std.proofs.Common.{◌∙◌, ap, refl, sym, subst}
use Rattle.satp_base.specs.Views.{begin}
use Rattle.satp_chain.specs.Chained.{Chained}
use Rattle.satp_sides.specs.Points.{Party, recipient_at}
use Rattle.satp_log.specs.Folding.{IsSound}
use Rattle.satp_log.proofs.Folds.{first-sound, first-tale, proposed}
use Rattle.satp_log.proofs.state.SessionState.propose.Goals as goal

pub compose-requires-clause-tale : goal.compose-requires-clause-tale
compose-requires-clause-tale c = first-tale c.in_ok-chain.chain (ap (λ (ch : Chained). ch.kept) c.in_ok-chain.ensures)

pub invariant_of-result : goal.invariant_of-result
invariant_of-result c =
    subst (λ v. IsSound v c.push.new.self) (sym c.begin-view.ensures) (subst (IsSound (begin c.args.role c.args.terms)) (sym c.push.ensures.pushed)
    (first-sound c.args.role c.args.terms c.in_ok-chain.chain c.args.key.now c.in_ok-proposal.proposal c.in_ok-proposal.proposal.text (ap (λ (ch : Chained). ch.kept) c.in_ok-chain.ensures) (c.in_ok-proposal.ensures.next, c.in_ok-proposal.ensures.follows, refl)))

pub returns : goal.returns
returns c = λ p e.
    proposed p c.args.session c.args.role c.args.terms c.recipient_of.result c.args.key.now c.in_ok-chain.chain c.push.new.self c.begin-view.result c.in_ok-proposal.proposal
    (c.recipient_of.ensures c.args.key.now ∙ ap (λ q. recipient_at q c.args.role) (sym e)) (ap (λ (q : Party). q.key) e) c.in_ok-chain.ensures c.in_ok-proposal.ensures.next c.in_ok-proposal.ensures.follows c.push.ensures.pushed c.begin-view.ensures c.push.ensures.chain
