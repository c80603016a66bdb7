use Rattle.std.proofs.Common.{◌≡◌, ◌≤◌, ◌+◌, ◌-◌, ℕ, Bool, true, false, cond, List, [], ◌∷◌, Some, None, option_map, refl, sym, ap, ◌∙◌, subst, inl, inr, arith, lit≤}
use Rattle.std.specs.FinMap as map
use Rattle.std.specs.List.{sum_by}
use Rattle.std.specs.Prelude.{unwrap_or}
use Rattle.satp_base.specs.Acts.{operation_events}
use Rattle.satp_base.specs.Founding.{counted, equal_names}
use Rattle.satp_base.specs.Keys.{session_cmp}
use Rattle.satp_base.specs.LedgerRule.{Operation, entry_of}
use Rattle.satp_base.specs.Money.{Book, cap_of, given, given_to_all, pledged, taken, taken_of_all}
use Rattle.satp_base.specs.declared.area.Event.{Event}
use Rattle.satp_base.specs.declared.genesis.Asset.{Asset}
use Rattle.satp_base.specs.declared.ledger.Entry.TheVariants.{Locked}
use Rattle.satp_base.specs.declared.ledger.LedgerEntry.{LedgerEntry}
use Rattle.satp_base.specs.declared.ledger.LedgerOp.TheVariants.{Lock}
use Rattle.satp_base.specs.declared.session.SessionId.{SessionId}
use Rattle.satp_base.proofs.SessionLemmas.{sessions_total}
use Rattle.satp_examples.specs.Acts.{locked, overdrawn}
use Rattle.satp_examples.specs.Genesis.{gold_1000}
use Rattle.satp_examples.specs.Ledgers.{book_with, new_book, past_what_is_free, with_gold}
use Rattle.satp_examples.specs.Samples.{alpha_1, ann, gold, quarter}
use Rattle.satp_examples.proofs.Books.{absent, burn_of_nothing, entry_is, lock_changes, lock_is, locked_is, no_entries, one_entry, total_among}
use Rattle.satp_examples.proofs.acts.law_acts.Goals as goal

abbrev events_of : Operation → List Event
events_of o = operation_events o Lock alpha_1 quarter

some_book : Some locked ≡ Some new_book → locked ≡ new_book
some_book e = cc

locked_new : locked ≡ new_book → ⊥
locked_new e = lock_changes (sym e)

pub returns-clause-operations : goal.returns-clause-operations
returns-clause-operations c = record {
  done = (ap (λ (o : Operation). o.answer) lock_is, sym (ap (λ (o : Operation). Some o.after) lock_is), sym (ap events_of lock_is));
  done_before = (ap (λ (o : Operation). o.answer) locked_is, sym (ap (λ (o : Operation). Some o.after) locked_is), sym (ap events_of locked_is));
  failed_without_effect = inl (refl, refl);
  failed_behind_its_effect = inr (sym (ap events_of lock_is), sym (ap (λ (o : Operation). Some o.after) lock_is));
  out_of_order = (burn_of_nothing, refl, refl);
  not_done_without_its_event = λ h. let is = h.2 ∙ ap events_of lock_is in absurd cc;
  not_done_and_told_no_more = λ h. let is = h.1 in absurd cc;
  not_failed_and_told_no_more = λ h. elim h [ inl still ↦ (let is = still.1 in absurd cc) | inr moved ↦ (let is = moved.1 in absurd cc) ];
  not_told_no_more_after_its_effect = λ h. elim h [ inl still ↦ (let is = still.1 in absurd cc) | inr moved ↦ (let is = moved.1 in absurd cc) ];
  not_failed_after_its_effect_without_its_event = λ h. elim h [ inl still ↦ locked_new (some_book still.1) | inr moved ↦ (let is = moved.0 ∙ ap events_of lock_is in absurd cc) ];
  no_event_where_nothing_changes = λ h. let is = h.2 ∙ ap events_of locked_is in absurd cc;
  not_out_of_order = λ h. let bound = h.0.bound in absurd cc;
}

-- ---- in memory

unmoved : ¬ (book_with Locked ≡ new_book)
unmoved e = let same = ap (λ (b : Book). entry_of b.entries alpha_1) e in let is = entry_is Locked in let was = absent in absurd cc

pub returns-clause-memory : goal.returns-clause-memory
returns-clause-memory c = record {
  out_of_order = (burn_of_nothing, refl);
  no_memory = refl;
  not_half_done = unmoved;
  not_another_entry = λ h. let found = h.0.found ∙ absent in absurd cc;
}

pub returns-clause-foundings : goal.returns-clause-foundings
returns-clause-foundings c = record {
  tells_the_book = (refl, refl);
  not_another_book = λ h. unmoved h.1;
  not_untold = λ h. let is = h.0 in absurd cc;
  failed = refl;
  not_told_where_it_failed = λ h. absurd cc;
  its_event = refl;
  not_without_it = λ h. absurd cc;
  failed_without_it = inr refl;
}

-- ---- sound books

no_sum : (f : LedgerEntry → ℕ) → sum_by (λ (e : SessionId × LedgerEntry). f e.1) (map.entries new_book.entries) ≡ 0
no_sum f = ap (sum_by (λ (e : SessionId × LedgerEntry). f e.1)) no_entries

-- whether the asset is gold or not
within : (is : Bool) → ((0 + counted is 500 + 0) - 0) + 0 ≤ unwrap_or (option_map (λ (x : Asset). x.cap.number) (cond is (Some gold_1000) None)) 0
within true = lit≤ tt
within false = lit≤ tt

one_lock : map.entries overdrawn.entries ≡ (alpha_1, record { entry = Locked; terms = past_what_is_free }) ∷ []
one_lock = map.entries-insert sessions_total map.empty alpha_1 (record { entry = Locked; terms = past_what_is_free }) ∙ ap (map.put session_cmp alpha_1 (record { entry = Locked; terms = past_what_is_free })) no_entries

abbrev sum_of : (LedgerEntry → ℕ) → List (SessionId × LedgerEntry) → ℕ
sum_of f es = sum_by (λ (e : SessionId × LedgerEntry). f e.1) es

pub returns-clause-sound : goal.returns-clause-sound
returns-clause-sound c = record {
  new = record {
    covered = λ asset owner. let none = no_sum (taken asset owner) in omega (arith, none);
    all_covered = λ asset. let none = no_sum (taken_of_all asset) in omega (arith, none);
    capped = λ asset. subst (λ es. total_among es asset ≤ unwrap_or (cap_of with_gold asset) 0) (sym no_entries) (within (equal_names asset gold));
  };
  not_overdrawn = λ s.
      let took : sum_of (taken gold ann) (map.entries overdrawn.entries) ≡ 501 = ap (sum_of (taken gold ann)) one_lock in
      let gave : sum_of (given gold ann) (map.entries overdrawn.entries) ≡ 0 = ap (sum_of (given gold ann)) one_lock in
      let bad : sum_of (taken gold ann) (map.entries overdrawn.entries) ≤ 500 + sum_of (given gold ann) (map.entries overdrawn.entries) = s.covered gold ann in
      absurd (omega (arith, took, gave, bad));
}

-- ---- amounts that agree

-- whether the asset is gold or not
covered : (is : Bool) → (0 + counted is 500) + 0 ≤ unwrap_or (option_map (λ (x : Asset). x.cap.number) (cond is (Some gold_1000) None)) 0
covered true = lit≤ tt
covered false = lit≤ tt

pub returns-clause-agree : goal.returns-clause-agree
returns-clause-agree c = record {
  as_held = record {
    each = λ asset owner. let took = no_sum (taken asset owner) in let gave = no_sum (given asset owner) in omega (arith, took, gave);
    all = λ asset. let took = no_sum (taken_of_all asset) in let gave = no_sum (given_to_all asset) in omega (arith, took, gave);
    capped = λ asset. let none = no_sum (pledged asset) in let fits = covered (equal_names asset gold) in omega (arith, none, fits);
  };
  not_nothing = λ a.
      let took = no_sum (taken gold ann) in let gave = no_sum (given gold ann) in
      let bad : 0 + sum_of (taken gold ann) (map.entries new_book.entries) ≡ 500 + sum_of (given gold ann) (map.entries new_book.entries) = a.each gold ann in
      absurd (omega (arith, took, gave, bad));
  not_another_sum = λ a.
      let took = no_sum (taken_of_all gold) in let gave = no_sum (given_to_all gold) in
      let bad : 501 + sum_of (taken_of_all gold) (map.entries new_book.entries) ≡ 500 + sum_of (given_to_all gold) (map.entries new_book.entries) = a.all gold in
      absurd (omega (arith, took, gave, bad));
  not_behind_a_lock = λ a.
      let took : sum_of (taken gold ann) (map.entries (book_with Locked).entries) ≡ 250 = ap (sum_of (taken gold ann)) (one_entry Locked) in
      let gave : sum_of (given gold ann) (map.entries (book_with Locked).entries) ≡ 0 = ap (sum_of (given gold ann)) (one_entry Locked) in
      let bad : 500 + sum_of (taken gold ann) (map.entries (book_with Locked).entries) ≡ 500 + sum_of (given gold ann) (map.entries (book_with Locked).entries) = a.each gold ann in
      absurd (omega (arith, took, gave, bad));
}
