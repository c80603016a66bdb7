use Rattle.std.proofs.Common.{◌∙◌, ap, sym, subst}
use Rattle.satp_log.specs.Journals.{party_of}
use Rattle.satp_base.specs.declared.session.SessionId.{SessionId}
use Rattle.satp_records.specs.declared.stored.Setup.{Setup}
use Rattle.satp_sides.specs.Calls.{Starts, refusal_of}
use Rattle.satp_points.specs.Deciding.{DecidesOver, RefusesAs}
use Rattle.satp_points.specs.declared.fault.Refused.TheVariants.{Exists}
use Rattle.satp_decisions.proofs.OwnLemmas.{start-exists}
use Rattle.satp_decisions.proofs.own.start.Goals as goal

pub returns-in-Some-clause-decides : goal.returns-in-Some-clause-decides
returns-in-Some-clause-decides c = λ s gateway number setup xs h formed log.
    let same = c.own_session-session.ensures s gateway number in
    subst (λ (x : SessionId). RefusesAs (refusal_of (party_of setup) xs (Starts x c.args.terms.now)) Exists) (sym same)
    (start-exists (party_of setup) xs log c.own_session-session.result c.args.terms.now _ (c.in-Some.ensures.found setup xs h).slot)

pub returns-in-None-clause-decides : goal.returns-in-None-clause-decides
returns-in-None-clause-decides c = λ s gateway number setup xs h formed log.
    let same = c.own_session-session.ensures s gateway number in
    let own = ap (λ (x : SessionId). x.gateway) (sym same) ∙ gateway ∙ ap (λ (x : Setup). x.name) h.setup_is in
    subst (λ (x : SessionId). DecidesOver (party_of setup) xs (Starts x c.args.terms.now) c.propose.result) (sym same)
    (c.propose.ensures.decides setup xs h formed log (c.in-None.ensures.found setup xs h) own)
