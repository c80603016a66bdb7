use Rattle.std.proofs.Common.{IsTrue, ◌↔◌, sym, subst}
use Rattle.satp_base.specs.Roles.{RoleRule}
use Rattle.satp_log.proofs.state.allows.Goals as goal

pub returns-in-Origin : goal.returns-in-Origin
returns-in-Origin c = subst (λ role. IsTrue c.allows.result ↔ RoleRule role c.args.view.now c.args.rec.now) (sym c.in-Origin.is) c.allows.ensures

pub returns-in-Recipient : goal.returns-in-Recipient
returns-in-Recipient c = subst (λ role. IsTrue c.allows-in-Recipient.result ↔ RoleRule role c.args.view.now c.args.rec.now) (sym c.in-Recipient.is) c.allows-in-Recipient.ensures
