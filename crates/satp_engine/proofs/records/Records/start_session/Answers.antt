use Rattle.std.proofs.Common.{◌∙◌, List, ℕ, refl, sym, ap, subst}
use Rattle.satp_base.specs.declared.record.Rec.TheVariants.{Began}
use Rattle.satp_chain.specs.Chained.{texts_in}
use Rattle.satp_log.specs.Folding.{proposal_text}
use Rattle.satp_log.specs.Journals.{party_of, payload_in}
use Rattle.satp_records.specs.Formats.{IsFormedRec}
use Rattle.satp_sides.specs.Points.{stored}
use Rattle.satp_engine.proofs.StartLemmas.{begins-at, entry-text, no-entry}
use Rattle.satp_engine.proofs.records.Records.start_session.Goals as goal

pub payload-requires : goal.payload-requires
payload-requires c =
    let text = proposal_text (party_of c.args.self.now.log.setup) c.args.session c.args.role c.args.terms in
    let is = entry-text c.chain.result.now text c.in-Some.proposal.now (ap texts_in c.chain.ensures ∙ c.in_ok-state.ensures.texts) c.in-Some.ensures.entry in
    subst (IsFormedRec (Began c.args.role c.args.terms)) (sym (c.bytes.ensures ∙ is)) c.requires.formed

pub unreachable-requires : goal.unreachable-requires
unreachable-requires c =
    let text = proposal_text (party_of c.args.self.now.log.setup) c.args.session c.args.role c.args.terms in
    no-entry c.chain.result.now text (ap texts_in c.chain.ensures ∙ c.in_ok-state.ensures.texts) c.in-None.ensures.entry

pub returns-clause-starts : goal.returns-clause-starts
returns-clause-starts c =
    let s = c.args.session in
    let role = c.args.role in
    let terms = c.args.terms in
    let old = c.args.self.now.log in
    let text = proposal_text (party_of old.setup) s role terms in
    let is = entry-text c.chain.result.now text c.in-Some.proposal.now (ap texts_in c.chain.ensures ∙ c.in_ok-state.ensures.texts) c.in-Some.ensures.entry in
    let payload = c.in_ok-payload-in-Some.payload in
    let payload_is = c.in_ok-payload-in-Some.ensures ∙ ap (λ (t : List ℕ). payload_in (stored s (Began role terms) t)) (c.bytes.ensures ∙ is) in
    (c.in_ok-state.state, payload, refl, begins-at old c.reserve.new.self s role terms c.in_ok-state.state payload c.in_ok-reserve.ensures.0 c.in_ok-reserve.ensures.1 c.requires.new c.in_ok-state.ensures payload_is)
