use Rattle.std.proofs.Common.{◌≡◌, Some, sym, subst}
use Rattle.std.specs.Prelude.{Ok}
use Rattle.satp_base.specs.Roles.{IsReached, RoleRule, abort_of}
use Rattle.satp_base.specs.declared.message.Role.{Role}
use Rattle.satp_base.specs.declared.record.Rec.{Rec}
use Rattle.satp_decisions.proofs.own.abort_of.Goals as goal

pub returns-in-Origin-clause-allowed : goal.returns-in-Origin-clause-allowed
returns-in-Origin-clause-allowed c =
    subst (λ (role : Role). IsReached role c.args.view.now → (r : Rec) → abort_of role c.args.view.now ≡ Ok (Some r) → RoleRule role c.args.view.now r) (sym c.in-Origin.is) (λ reached r e. c.law_aborts.ensures c.args.view.now r reached e)

pub returns-in-Recipient-clause-allowed : goal.returns-in-Recipient-clause-allowed
returns-in-Recipient-clause-allowed c =
    subst (λ (role : Role). IsReached role c.args.view.now → (r : Rec) → abort_of role c.args.view.now ≡ Ok (Some r) → RoleRule role c.args.view.now r) (sym c.in-Recipient.is) (λ reached r e. c.law_aborts-in-Recipient.ensures c.args.view.now r reached e)
