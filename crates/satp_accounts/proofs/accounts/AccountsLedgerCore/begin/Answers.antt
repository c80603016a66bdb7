use Rattle.std.proofs.Common.{sym, subst}
use Rattle.std.specs.FinMap.{from_entries}
use Rattle.satp_base.specs.Founding.{Founding}
use Rattle.satp_base.specs.Genesis.{IsGenesis}
use Rattle.satp_accounts.specs.Owners.{IsHeld}
use Rattle.satp_accounts.proofs.BeginLemmas.{first_agrees}
use Rattle.satp_accounts.proofs.accounts.AccountsLedgerCore.begin.Goals as goal

pub invariant_of-result : goal.invariant_of-result
invariant_of-result c = record {
  agrees = first_agrees c.in_ok-genesis.genesis c.new.result.entries (from_entries c.in_ok-amounts.amounts.entries)
      (subst IsGenesis (sym c.in_ok-genesis.ensures) c.in_ok-amounts.ensures.valid) c.new.ensures.empty
      (subst (λ (g : Founding). IsHeld g.holds (from_entries c.in_ok-amounts.amounts.entries)) (sym c.in_ok-genesis.ensures) c.in_ok-amounts.ensures.amounts);
}
