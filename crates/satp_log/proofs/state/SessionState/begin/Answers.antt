use Rattle.std.proofs.Common.{◌∙◌, sym, ap, subst}
use Rattle.satp_base.specs.Views.{begin}
use Rattle.satp_base.specs.declared.message.Part.TheVariants.{Proposal}
use Rattle.satp_chain.specs.Chained.{Chained}
use Rattle.satp_sides.specs.LogLaws.{IsOfRole}
use Rattle.satp_sides.specs.Points.{Party, recipient_at}
use Rattle.satp_log.specs.Folding.{HasText, IsSound}
use Rattle.satp_log.proofs.Folds.{begin-else, begin-state, begin-text, begin-whose, first-sound, first-tale, not-both}
use Rattle.satp_log.proofs.state.SessionState.begin.Goals as goal

pub returns-in_default : goal.returns-in_default
returns-in_default c = λ p xs e new room. begin-else p c.args.session xs new c.args.rec.now c.args.text.now c.in_default.not-Began

pub returns-then-not-is_of_role : goal.returns-then-not-is_of_role
returns-then-not-is_of_role c = λ p xs e new room.
    begin-whose p c.args.session xs new c.args.rec.now c.in-Began.role c.in-Began.terms c.args.text.now c.in-Began.is
    (λ whose. not-both c.is_of_role.result c.if-not-is_of_role.true ((c.is_of_role.ensures c.args.key.now).1 (subst (λ q. IsOfRole q c.args.session c.in-Began.role) e whose)))

pub with_text-requires-clause-tale : goal.with_text-requires-clause-tale
with_text-requires-clause-tale c = first-tale c.in_ok-chain.chain (ap (λ (ch : Chained). ch.kept) c.in_ok-chain.ensures)

pub invariant_of-result : goal.invariant_of-result
invariant_of-result c =
    let has = subst (HasText c.in_ok-chain.chain c.args.key.now (Proposal c.in-Began.terms) c.args.text.now) c.in-Some.is c.in_ok-proposal.ensures in
    subst (λ v. IsSound v c.push.new.self) (sym c.begin-view.ensures) (subst (IsSound (begin c.in-Began.role c.in-Began.terms)) (sym c.push.ensures.pushed)
    (first-sound c.in-Began.role c.in-Began.terms c.in_ok-chain.chain c.args.key.now c.in-Some.proposal c.args.text.now (ap (λ (ch : Chained). ch.kept) c.in_ok-chain.ensures) has))

pub returns-in-Some : goal.returns-in-Some
returns-in-Some c = λ p xs e new room.
    let has = subst (HasText c.in_ok-chain.chain c.args.key.now (Proposal c.in-Began.terms) c.args.text.now) c.in-Some.is c.in_ok-proposal.ensures in
    begin-state p c.args.session xs new c.args.rec.now c.in-Began.role c.in-Began.terms c.args.text.now c.recipient_of.result c.args.key.now c.in_ok-chain.chain c.push.new.self c.begin-view.result c.in-Some.proposal c.in-Began.is room
    (subst (λ q. IsOfRole q c.args.session c.in-Began.role) (sym e) ((c.is_of_role.ensures c.args.key.now).0 c.if-not-is_of_role.false))
    (c.recipient_of.ensures c.args.key.now ∙ ap (λ q. recipient_at q c.in-Began.role) (sym e)) (ap (λ (q : Party). q.key) e) c.in_ok-chain.ensures has c.push.ensures.pushed c.begin-view.ensures c.push.ensures.chain

pub returns-in-None : goal.returns-in-None
returns-in-None c = λ p xs e new room.
    let has = subst (HasText c.in_ok-chain.chain c.args.key.now (Proposal c.in-Began.terms) c.args.text.now) c.in-None.is c.in_ok-proposal.ensures in
    begin-text p c.args.session xs new c.args.rec.now c.in-Began.role c.in-Began.terms c.args.text.now c.recipient_of.result c.args.key.now c.in_ok-chain.chain c.in-Began.is
    (c.recipient_of.ensures c.args.key.now ∙ ap (λ q. recipient_at q c.in-Began.role) (sym e)) (ap (λ (q : Party). q.key) e) c.in_ok-chain.ensures has
