use Rattle.std.proofs.Common.{Contains, List, ap, map, subst, sym, ◌∙◌}
use Rattle.satp_plan.specs.Plans.{PlanState}
use Rattle.satp_plan.specs.declared.planning.Note.{Note}
use Rattle.satp_plan.proofs.Makings.{note-of}
use Rattle.satp_plan.proofs.planning.Plan.note.Goals as goal

pub returns-in-Some-clause-payload : goal.returns-in-Some-clause-payload
returns-in-Some-clause-payload c = λ s chain key is.
    note-of s chain key c.args.self.now c.as_slice.result.now c.self.inside.notes.items c.in-Some.index c.index.result.now c.args.rec.now is c.as_slice.ensures.value
    (ap (λ (p : PlanState). p.notes) c.self.view_is) c.in-Some.ensures c.index.ensures

pub returns-in-None-clause-has : goal.returns-in-None-clause-has
returns-in-None-clause-has c = (
  λ e. absurd (cc e),
  λ h. absurd (c.in-None.ensures (subst (λ (xs : List Note). Contains (map (λ (note : Note). note.rec) xs) c.args.rec.now) (sym (c.as_slice.ensures.value ∙ ap (λ (p : PlanState). p.notes) c.self.view_is)) h)),
)
