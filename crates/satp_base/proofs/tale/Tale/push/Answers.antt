use Rattle.std.proofs.Common.{◌++◌, ◌∷◌, [], ap, sym, subst, ◌∙◌}
use Rattle.satp_base.specs.Tales.{IsTale}
use Rattle.satp_base.proofs.TaleLemmas.{room, pushed, pushed-kinds}
use Rattle.satp_base.proofs.tale.Tale.push.Goals as goal

pub bounds-self-inside-self-inside : goal.bounds-self-inside-self-inside
bounds-self-inside-self-inside c = room c.self.inside c.args.kind c.self.invariant (subst (λ v. IsTale (v ++ c.args.kind ∷ [])) (sym c.self.view_is) c.requires)

pub invariant_of-self : goal.invariant_of-self
invariant_of-self c = pushed c.self.inside c.args.kind c.self.invariant (subst (λ v. IsTale (v ++ c.args.kind ∷ [])) (sym c.self.view_is) c.requires)

pub returns : goal.returns
returns c =
    pushed-kinds c.self.inside c.args.kind c.self.invariant (room c.self.inside c.args.kind c.self.invariant (subst (λ v. IsTale (v ++ c.args.kind ∷ [])) (sym c.self.view_is) c.requires))
    ∙ ap (λ v. v ++ c.args.kind ∷ []) c.self.view_is
