use Rattle.std.proofs.Common.{Contains, List, ap, map, refl, subst, sym, ◌∙◌}
use Rattle.satp_plan.specs.Plans.{PlanState}
use Rattle.satp_plan.specs.declared.planning.Making.{Making}
use Rattle.satp_plan.proofs.Makings.{taken-making, taken-out}
use Rattle.satp_plan.proofs.planning.Plan.take.Goals as goal

pub returns-in-Some-clause-taken : goal.returns-in-Some-clause-taken
returns-in-Some-clause-taken c =
    taken-out c.args.self.now c.self.inside.notes.items c.as_slice.result.now c.self.inside.makings.items c.in-Some.index c.remove.result c.args.part c.self.view_is c.as_slice.ensures.value
    c.in-Some.ensures c.remove.ensures.value c.remove.new.self.items c.remove.ensures.items

pub returns-in-Some-clause-making : goal.returns-in-Some-clause-making
returns-in-Some-clause-making c =
    taken-making c.args.self.now c.self.inside.notes.items c.as_slice.result.now c.self.inside.makings.items c.in-Some.index c.remove.result c.args.part c.self.view_is c.as_slice.ensures.value
    c.in-Some.ensures c.remove.ensures.value

pub returns-in-None-clause-taken : goal.returns-in-None-clause-taken
returns-in-None-clause-taken c = (
  λ h. c.in-None.ensures (subst (λ (xs : List Making). Contains (map (λ (making : Making). making.part) xs) c.args.part) (sym (c.as_slice.ensures.value ∙ ap (λ (p : PlanState). p.makings) c.self.view_is)) h),
  refl,
)
