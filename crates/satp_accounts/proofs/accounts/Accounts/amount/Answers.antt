use Rattle.std.proofs.Common.{◌∙◌, sym, ap}
use Rattle.std.specs.Prelude.{unwrap_or}
use Rattle.satp_money.proofs.Maps.{get_value}
use Rattle.satp_money.proofs.Moves.{each_is}
use Rattle.satp_accounts.specs.Owners.{owned_cmp}
use Rattle.satp_accounts.proofs.OwnerLemmas.{exact_owned, owned_total}
use Rattle.satp_accounts.proofs.accounts.Accounts.amount.Goals as goal

pub returns : goal.returns
returns c = c.unwrap_or.ensures ∙ ap (λ o. unwrap_or o 0) (c.copied.ensures ∙ c.get.ensures.value ∙ sym (get_value owned_cmp owned_total exact_owned c.args.self.now.amounts.entries c.args.owned)) ∙ each_is _ _ _ c.args.self.now.agrees c.args.owned.asset c.args.owned.owner
