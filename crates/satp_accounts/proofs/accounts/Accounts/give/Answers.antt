use Rattle.std.proofs.Common.{◌∙◌, ◌+◌, ℕ, ap, ap₂, sym, arith}
use Rattle.std.specs.FinMap.{from_entries}
use Rattle.satp_base.specs.Ledgers.{Entries}
use Rattle.satp_money.proofs.Maps.{one_value}
use Rattle.satp_money.proofs.Moves.{each_is}
use Rattle.satp_accounts.specs.Books.{book_of}
use Rattle.satp_accounts.specs.Owners.{owned_cmp}
use Rattle.satp_accounts.proofs.OwnerLemmas.{exact_owned, owned_total}
use Rattle.satp_money.proofs.Steps.{entry_put, entry_there, from_err, from_ok, not_giving}
use Rattle.satp_accounts.proofs.StepLemmas.{give_done, raise_fits}
use Rattle.satp_accounts.proofs.accounts.Accounts.give.Goals as goal

pub overflow_add-amount : goal.overflow_add-amount
overflow_add-amount c = omega (arith, c.get.ensures, c.amount.ensures ∙ sym (each_is _ _ _ c.args.self.now.agrees c.args.owned.asset c.args.owned.owner), raise_fits (book_of c.args.self.now) c.args.op c.args.session c.args.terms (from_entries c.args.self.now.amounts.entries) c.args.owned c.args.self.now.agrees c.requires.giving c.requires.terms c.requires.receiver)

pub unreachable-requires : goal.unreachable-requires
unreachable-requires c = not_giving c.args.op _ c.requires.giving (entry_there c.args.self.now.entries.entries c.args.session (from_err c.insert-2.result _ c.if-is_err-2.ensures.value c.insert-2.ensures.absent))

pub invariant_of-self-2 : goal.invariant_of-self-2
invariant_of-self-2 c = record {
  agrees = give_done (book_of c.args.self.now) c.args.op c.args.session c.args.terms (from_entries c.args.self.now.amounts.entries) _ _ c.args.owned _ c.args.self.now.agrees c.requires.giving c.requires.terms c.requires.receiver
      (ap₂ (λ (x y : ℕ). x + y) (c.amount.ensures ∙ sym (each_is _ _ _ c.args.self.now.agrees c.args.owned.asset c.args.owned.owner)) c.get.ensures) (one_value owned_cmp owned_total exact_owned c.args.self.now.amounts.entries c.insert.new.self.entries c.args.owned _ (from_ok c.insert.result _ c.if-is_err.ensures.value c.insert.ensures.updates).0)
      (entry_put c.args.self.now.entries.entries c.insert-2.new.self.entries c.args.session c.args.op _ c.args.terms c.result_of-entry.ensures (from_ok c.insert-2.result _ c.if-is_err-2.ensures.value c.insert-2.ensures.updates).0);
}

pub returns-clause-ok : goal.returns-clause-ok
returns-clause-ok c = ap (λ (m : Entries). record (book_of c.args.self.now) { entries = m })
    (entry_put c.args.self.now.entries.entries c.insert-2.new.self.entries c.args.session c.args.op _ c.args.terms c.result_of-entry.ensures (from_ok c.insert-2.result _ c.if-is_err-2.ensures.value c.insert-2.ensures.updates).0)
