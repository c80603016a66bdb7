use Rattle.std.proofs.Common.{◌+◌, ◌∙◌, ℕ, ap, ap₂, arith, sym}
use Rattle.std.specs.Prelude.{unwrap_or}
use Rattle.std.specs.FinMap.{from_entries}
use Rattle.satp_money.proofs.Maps.{get_value, one_value}
use Rattle.satp_money.proofs.Steps.{from_ok}
use Rattle.satp_accounts.specs.Owners.{owned_cmp}
use Rattle.satp_accounts.proofs.BeginLemmas.{hold_added, hold_range}
use Rattle.satp_accounts.proofs.OwnerLemmas.{exact_owned, owned_total}
use Rattle.satp_accounts.proofs.begin.add_hold.Goals as goal

pub overflow_add-before : goal.overflow_add-before
overflow_add-before c =
    omega (
      arith,
      c.get-2.ensures,
      c.unwrap_or-before.ensures ∙ ap (λ o. unwrap_or o 0) (c.copied.ensures ∙ c.get.ensures.value ∙ sym (get_value owned_cmp owned_total exact_owned c.args.amounts.now.entries (record { asset = c.in-Some.asset; owner = c.in-Some.owner }))),
      hold_range (from_entries c.args.amounts.now.entries) c.args.hold c.in-Some.asset c.in-Some.owner c.in-Some.amount c.in-Some.is c.requires.fits,
    )

pub returns : goal.returns
returns c =
    hold_added (from_entries c.args.amounts.now.entries) _ c.args.hold c.in-Some.asset c.in-Some.owner c.in-Some.amount _ c.in-Some.is
    (ap₂ (λ (x y : ℕ). x + y) (c.unwrap_or-before.ensures ∙ ap (λ o. unwrap_or o 0) (c.copied.ensures ∙ c.get.ensures.value ∙ sym (get_value owned_cmp owned_total exact_owned c.args.amounts.now.entries (record { asset = c.in-Some.asset; owner = c.in-Some.owner })))) c.get-2.ensures)
    (one_value owned_cmp owned_total exact_owned c.args.amounts.now.entries c.insert.new.self.entries (record { asset = c.in-Some.asset; owner = c.in-Some.owner }) _ (from_ok c.insert.result _ c.if-is_err.ensures.value c.insert.ensures.updates).0)
