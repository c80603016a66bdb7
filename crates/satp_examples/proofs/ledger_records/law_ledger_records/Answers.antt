use Rattle.std.proofs.Common.{◌≡◌, ℕ, List, [], ◌∷◌, Option, Some, None, refl, sym, ap, ◌∙◌, subst, inl, inr, arith, lit<}
use Rattle.std.specs.Option.{option_map_or}
use Rattle.satp_base.specs.Acts.{operation_events}
use Rattle.satp_base.specs.Calls.{Ask, Told}
use Rattle.satp_base.specs.LedgerRule.{Operation, RuleOn, entry_of, operation}
use Rattle.satp_base.specs.Money.{Book}
use Rattle.satp_base.specs.Roles.{After}
use Rattle.satp_base.specs.declared.area.Event.{Event}
use Rattle.satp_base.specs.declared.ledger.Answer.{Answer}
use Rattle.satp_base.specs.declared.ledger.Answer.TheVariants.{Capped, Done, NoFunds, Taken, UnknownAsset as unknown}
use Rattle.satp_base.specs.declared.ledger.Entry.TheVariants.{Absent, Locked}
use Rattle.satp_base.specs.declared.ledger.LedgerOp.{LedgerOp}
use Rattle.satp_base.specs.declared.ledger.LedgerOp.TheVariants.{Lock, Mint}
use Rattle.satp_base.specs.declared.message.Terms.{Terms}
use Rattle.satp_base.specs.declared.record.Cause.TheVariants.{LockRefused, MintCapped, UnknownAsset}
use Rattle.satp_base.specs.declared.record.Rec.TheVariants.{Chose}
use Rattle.satp_base.specs.declared.record.Way.TheVariants.{Back}
use Rattle.satp_examples.specs.Acts.{lock_event, locked}
use Rattle.satp_examples.specs.Ledgers.{at_most_free, new_book, past_what_is_free}
use Rattle.satp_examples.specs.Samples.{alpha_1, quarter}
use Rattle.satp_examples.proofs.Books.{absent, entry_is, free_first, lock_changes, lock_is, total_first}
use Rattle.satp_examples.proofs.ledger_records.law_ledger_records.Goals as goal

-- ---- a site in memory

abbrev events_of : Operation → List Event
events_of o = operation_events o Lock alpha_1 quarter

abbrev told_events : Option Told → List Event
told_events o = option_map_or (λ (t : Told). t.trail.events) o []

abbrev told_failure : Option Told → Option ℕ
told_failure o = option_map_or (λ (t : Told). t.last_failed) o None

abbrev told_asks : Option Told → List Ask
told_asks o = option_map_or (λ (t : Told). t.asks) o []

the_book : (b : Book) → Some b ≡ Some (operation new_book Lock alpha_1 quarter).after → b ≡ locked
the_book b e = some_book b locked (e ∙ ap (λ (o : Operation). Some o.after) lock_is)
  where
    some_book : (x y : Book) → Some x ≡ Some y → x ≡ y
    some_book x y e = cc

pub returns-clause-told : goal.returns-clause-told
returns-clause-told c = record {
  done = (lock_event ∷ [], inl refl, (ap (λ (o : Operation). o.answer) lock_is, sym (ap (λ (o : Operation). Some o.after) lock_is), sym (ap events_of lock_is)), refl);
  failed = ([], inr refl, inl (refl, refl), inl refl);
  failed_and_only_counted = ([], inr refl, inl (refl, refl), inr refl);
  not_failed_as_one_that_succeeded = λ h. elim h.3 [ inl told ↦ (let bad = ap told_failure told in absurd cc) | inr counted ↦ (let bad = ap told_failure counted in absurd cc) ];
  not_done_without_its_event = λ h. let is = h.2.2 ∙ ap events_of lock_is in let told = ap told_events h.3 in absurd cc;
  not_done_and_only_counted = λ h. let told = ap told_asks h.3 in absurd cc;
  not_done_and_forgotten = λ h. lock_changes (the_book new_book h.2.1);
}

-- ---- records

on_nothing : (op : LedgerOp) (terms : Terms) (answer : Answer) → RuleOn new_book Absent op alpha_1 terms answer new_book → RuleOn new_book (entry_of new_book.entries alpha_1) op alpha_1 terms answer new_book
on_nothing op terms answer h = subst (λ e. RuleOn new_book e op alpha_1 terms answer new_book) (sym absent) h

of_nothing : (op : LedgerOp) (terms : Terms) (answer : Answer) → RuleOn new_book (entry_of new_book.entries alpha_1) op alpha_1 terms answer new_book → RuleOn new_book Absent op alpha_1 terms answer new_book
of_nothing op terms answer h = subst (λ e. RuleOn new_book e op alpha_1 terms answer new_book) absent h

cap_is : (cap : ℕ) → Some 1000 ≡ Some cap → cap ≡ 1000
cap_is cap e = cc

no_refusal : (answer : Answer) → RuleOn new_book Absent Lock alpha_1 at_most_free answer new_book → After Lock answer (Chose (Back LockRefused)) → ⊥
no_refusal Done r a = absurd cc
no_refusal (NoFunds free) r a = omega (arith, r.1, r.2, free_first)
no_refusal unknown r a = a
no_refusal (Capped total) r a = a
no_refusal (Taken shown) r a = r.0 refl

no_cap : (answer : Answer) → RuleOn new_book Absent Mint alpha_1 at_most_free answer new_book → After Mint answer (Chose (Back MintCapped)) → ⊥
no_cap Done r a = absurd cc
no_cap (NoFunds free) r a = a
no_cap unknown r a = absurd cc
no_cap (Capped total) r a = let is = cap_is r.2.0 r.2.1 in omega (arith, r.1, is, r.2.2, total_first)
no_cap (Taken shown) r a = absurd cc

no_unknown : (answer : Answer) → RuleOn new_book Absent Mint alpha_1 quarter answer new_book → After Mint answer (Chose (Back UnknownAsset)) → ⊥
no_unknown Done r a = absurd cc
no_unknown (NoFunds free) r a = a
no_unknown unknown r a = let bad = r.1 in absurd cc
no_unknown (Capped total) r a = absurd cc
no_unknown (Taken shown) r a = absurd cc

pub returns-clause-fits : goal.returns-clause-fits
returns-clause-fits c = record {
  locked = entry_is Locked;
  refused = (NoFunds 500, on_nothing Lock past_what_is_free (NoFunds 500) (refl, sym free_first, lit< tt, refl), refl);
  capped = (Capped 500, on_nothing Mint past_what_is_free (Capped 500) (refl, sym total_first, (1000, refl, lit< tt), refl), refl);
  an_abort = tt;
  not_done_before_it_is = λ e. let was = absent in absurd cc;
  not_refused_within_funds = λ h. no_refusal h.0 (of_nothing Lock at_most_free h.0 h.1) h.2;
  not_capped_within_the_cap = λ h. no_cap h.0 (of_nothing Mint at_most_free h.0 h.1) h.2;
  not_unknown_where_it_is_known = λ h. no_unknown h.0 (of_nothing Mint quarter h.0 h.1) h.2;
}
