use Rattle.std.proofs.Common.{◌∙◌, ◌≤◌, ℕ, subst, sym}
use Rattle.satp_outputs.specs.States.{book_of}
use Rattle.satp_outputs.specs.Steps.{EndsAt}
use Rattle.satp_outputs.proofs.MoveLemmas.{ends_within, lock_rule, own_fits}
use Rattle.satp_outputs.proofs.outputs.Outputs.lock_new.Goals as goal

pub taking-taking-requires-clause-fits : goal.taking-taking-requires-clause-fits
taking-taking-requires-clause-fits c = own_fits (book_of c.args.self.now) c.args.self.now.unspent.outputs.entries c.args.self.now.agrees c.args.terms.asset c.args.terms.originator

pub returns-in-Ok-clause-rule : goal.returns-in-Ok-clause-rule
returns-in-Ok-clause-rule c =
    let ends = subst (λ (n : ℕ). EndsAt c.args.self.now.unspent.outputs.entries c.args.terms.asset c.args.terms.originator n c.in-Some.taking.last c.in-Some.taking.rest) c.get.ensures c.in-Some.ensures.ends in
    lock_rule (book_of c.args.self.now) _ c.args.session c.args.terms c.requires.none
    (subst (λ (n : ℕ). c.args.terms.amount.number ≤ n) (sym c.amount-free.ensures.outputs ∙ c.amount-free.ensures.free) (ends_within c.args.self.now.unspent.outputs.entries c.args.terms.asset c.args.terms.originator c.args.terms.amount.number c.in-Some.taking.last c.in-Some.taking.rest ends))
    c.in-Ok.ensures.ok
