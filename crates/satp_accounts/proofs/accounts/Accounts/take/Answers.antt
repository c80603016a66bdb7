use Rattle.std.proofs.Common.{◌∙◌, ◌-◌, ◌≤◌, ℕ, ap, ap₂, refl, subst, sym}
use Rattle.std.specs.FinMap.{from_entries}
use Rattle.satp_base.specs.Ledgers.{Entries}
use Rattle.satp_money.proofs.Maps.{one_value}
use Rattle.satp_money.proofs.Moves.{each_is}
use Rattle.satp_accounts.specs.Books.{book_of}
use Rattle.satp_accounts.specs.Owners.{owned_cmp}
use Rattle.satp_accounts.proofs.OwnerLemmas.{exact_owned, owned_total}
use Rattle.satp_money.proofs.Steps.{entry_put, from_err, from_ok}
use Rattle.satp_accounts.proofs.StepLemmas.{some_amount, take_done}
use Rattle.satp_base.specs.declared.ledger.LedgerOp.TheVariants.{Lock}
use Rattle.satp_accounts.proofs.accounts.Accounts.take.Goals as goal

pub unreachable-requires : goal.unreachable-requires
unreachable-requires c = some_amount c.args.self.now.amounts.entries (record { asset = c.args.terms.asset; owner = c.args.terms.originator }) c.args.terms.amount.number c.args.terms.amount.low (subst (λ (x : ℕ). c.args.terms.amount.number ≤ x) (sym (each_is _ _ _ c.args.self.now.agrees c.args.terms.asset c.args.terms.originator)) c.requires.free) (from_err c.insert-2.result _ c.if-is_err-2.ensures.value c.insert-2.ensures.absent)

pub invariant_of-self-2 : goal.invariant_of-self-2
invariant_of-self-2 c = record {
  agrees = take_done (book_of c.args.self.now) c.args.session c.args.terms (from_entries c.args.self.now.amounts.entries) _ _ _ c.args.self.now.agrees c.requires.none
      (subst (λ (x : ℕ). c.args.terms.amount.number ≤ x) (sym (each_is _ _ _ c.args.self.now.agrees c.args.terms.asset c.args.terms.originator)) c.requires.free) (ap₂ (λ (x y : ℕ). x - y) (c.amount.ensures ∙ sym (each_is _ _ _ c.args.self.now.agrees c.args.terms.asset c.args.terms.originator)) c.get.ensures) (one_value owned_cmp owned_total exact_owned c.args.self.now.amounts.entries c.insert-2.new.self.entries _ _ (from_ok c.insert-2.result _ c.if-is_err-2.ensures.value c.insert-2.ensures.updates).0)
      (entry_put c.args.self.now.entries.entries c.insert.new.self.entries c.args.session Lock _ c.args.terms refl (from_ok c.insert.result _ c.if-is_err.ensures.value c.insert.ensures.updates).0);
}

pub returns-clause-ok : goal.returns-clause-ok
returns-clause-ok c = ap (λ (m : Entries). record (book_of c.args.self.now) { entries = m })
    (entry_put c.args.self.now.entries.entries c.insert.new.self.entries c.args.session Lock _ c.args.terms refl (from_ok c.insert.result _ c.if-is_err.ensures.value c.insert.ensures.updates).0)
