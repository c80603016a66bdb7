use Rattle.std.proofs.Common.{◌∙◌, ap, sym, subst}
use Rattle.satp_base.specs.declared.view.View.{View}
use Rattle.satp_log.specs.Journals.{party_of}
use Rattle.satp_sides.specs.Calls.{Rescues}
use Rattle.satp_points.specs.Deciding.{Decided}
use Rattle.satp_points.specs.declared.decision.Decision.TheVariants.{Works}
use Rattle.satp_points.specs.declared.decision.Replying.TheVariants.{Recover}
use Rattle.satp_decisions.specs.Steps.{first_rescued}
use Rattle.satp_decisions.proofs.OwnLemmas.{rescue-decided, rescue-strange}
use Rattle.satp_decisions.proofs.own.rescue.Goals as goal

pub returns-in-Some-clause-decides : goal.returns-in-Some-clause-decides
returns-in-Some-clause-decides c = λ setup xs h formed log.
    subst (λ f. Decided (party_of setup) xs (Rescues c.args.session) (Works c.args.session f Recover)) (sym (c.rescued.ensures ∙ ap (λ (v : View). first_rescued v) c.view.ensures))
    (rescue-decided (party_of setup) xs log c.args.session _ (c.in-Some.ensures.found setup xs h).slot)

pub returns-in-None-clause-decides : goal.returns-in-None-clause-decides
returns-in-None-clause-decides c = λ setup xs h formed log. rescue-strange (party_of setup) xs log c.args.session (c.in-None.ensures.found setup xs h)
