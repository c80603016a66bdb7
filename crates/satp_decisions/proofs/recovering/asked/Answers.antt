use Rattle.std.proofs.Common.{◌∙◌, Some, ap, sym}
use Rattle.satp_base.specs.declared.view.View.{View}
use Rattle.satp_log.specs.Journals.{party_of}
use Rattle.satp_points.specs.declared.decision.Decision.TheVariants.{Gives, Works}
use Rattle.satp_points.specs.declared.decision.Replying.TheVariants.{Update}
use Rattle.satp_decisions.specs.Steps.{asked_decision, first_rescued}
use Rattle.satp_decisions.proofs.recovering.asked.Goals as goal

pub returns-in-Some : goal.returns-in-Some
returns-in-Some c = λ setup xs h.
    ap (λ f. Works c.args.session f (Update c.args.length)) (c.rescued.ensures ∙ ap (λ (v : View). first_rescued v) c.view.ensures)
    ∙ sym (ap (asked_decision (party_of setup) c.args.session c.args.length) (c.in-Some.ensures.found setup xs h).slot)

pub returns-in_ok-nothing_known-in-None : goal.returns-in_ok-nothing_known-in-None
returns-in_ok-nothing_known-in-None c = λ setup xs h.
    ap (λ t. Gives (Some t)) (c.in_ok-nothing_known-in-None.ensures (party_of setup) (ap party_of (sym h.setup_is))) ∙ sym (ap (asked_decision (party_of setup) c.args.session c.args.length) (c.in-None.ensures.found setup xs h))
