use Rattle.std.proofs.Common.{◌≡◌, ◌≢◌, ℕ, false, [], ◌∷◌, Some, None, Option, refl, sym, ap, ◌∙◌, subst, inl, inr, arith, lit<, rules}
use Rattle.std.specs.FinMap as map
use Rattle.std.specs.Option.{option_map_or}
use Rattle.satp_base.specs.Keys.{session_cmp}
use Rattle.satp_base.specs.LedgerRule.{RuleOn, entry_of, is_always_answered, leads, moved, result_of, operation, operation_on, terms_of}
use Rattle.satp_base.specs.Money.{Book}
use Rattle.satp_base.specs.declared.ledger.Answer.{Answer}
use Rattle.satp_base.specs.declared.ledger.Answer.TheVariants.{Done, NoFunds, UnknownAsset, Capped, Taken}
use Rattle.satp_base.specs.declared.ledger.Entry.{Entry}
use Rattle.satp_base.specs.declared.ledger.Entry.TheVariants.{Absent, Locked, Burnt, Minted, Assigned, Released}
use Rattle.satp_base.specs.declared.ledger.LedgerEntry.{LedgerEntry}
use Rattle.satp_base.specs.declared.ledger.LedgerOp.{LedgerOp}
use Rattle.satp_base.specs.declared.ledger.LedgerOp.TheVariants.{Lock, Burn, Mint, Assign, Release}
use Rattle.satp_base.specs.declared.message.Terms.{Terms}
use Rattle.satp_base.proofs.SessionLemmas.{sessions_total}
use Rattle.satp_money.proofs.Steps.{absent_terms, stands}
use Rattle.satp_examples.specs.Samples.{alpha_1, alpha_2, ann, quarter, salt}
use Rattle.satp_examples.specs.Ledgers.{Answers, AnswersTo, HasNoAnswer, Moves, at_most_free, book_with, entries_with, new_book, of_salt, past_what_is_free}
use Rattle.satp_examples.proofs.Books.{absent, amounts, entry_is, found, free_among, free_first, free_salt, moved_entry, no_entries, one_entry, total_first}
use Rattle.satp_examples.proofs.ledgers.law_ledgers.Goals as goal

no_salt : (entry : Entry) → free_among ((alpha_1, record { entry = entry; terms = quarter }) ∷ []) salt ann ≡ 0
no_salt Absent = refl
no_salt Locked = refl
no_salt Burnt = refl
no_salt Minted = refl
no_salt Assigned = refl
no_salt Released = refl

pub returns-clause-amounts : goal.returns-clause-amounts
returns-clause-amounts c = record {
  at_first = amounts map.empty _ no_entries;
  locked = amounts (entries_with Locked) _ (one_entry Locked);
  burnt = amounts (entries_with Burnt) _ (one_entry Burnt);
  minted = amounts (entries_with Minted) _ (one_entry Minted);
  assigned = amounts (entries_with Assigned) _ (one_entry Assigned);
  released = amounts (entries_with Released) _ (one_entry Released);
  another_asset = λ entry. ap (λ x. free_among x salt ann) (one_entry entry) ∙ no_salt entry;
  cap = refl;
  no_cap = refl;
}

-- ---- the rule

done_nowhere : (e : Entry) (op : LedgerOp) (new : Book) → e ≢ result_of op → leads op e ≡ false → ¬ Answers e op Done new
done_nowhere e op new other none (inl h) = other h.0
done_nowhere e op new other none (inr h) = let line = h.0 in absurd cc

unanswered : (e : Entry) (op : LedgerOp) → is_always_answered op ≡ false → e ≢ result_of op → leads op e ≡ false → HasNoAnswer e op
unanswered e op bound other none Done new = done_nowhere e op new other none
unanswered e Lock bound other none (NoFunds free) new = absurd cc
unanswered e Lock bound other none UnknownAsset new = λ h. h
unanswered e Lock bound other none (Capped total) new = λ h. h
unanswered e Lock bound other none (Taken shown) new = absurd cc
unanswered e Burn bound other none (NoFunds free) new = λ h. h
unanswered e Burn bound other none UnknownAsset new = λ h. h
unanswered e Burn bound other none (Capped total) new = λ h. h
unanswered e Burn bound other none (Taken shown) new = λ h. h
unanswered e Mint bound other none answer new = absurd cc
unanswered e Assign bound other none (NoFunds free) new = λ h. h
unanswered e Assign bound other none UnknownAsset new = λ h. h
unanswered e Assign bound other none (Capped total) new = λ h. h
unanswered e Assign bound other none (Taken shown) new = λ h. h
unanswered e Release bound other none (NoFunds free) new = λ h. h
unanswered e Release bound other none UnknownAsset new = λ h. h
unanswered e Release bound other none (Capped total) new = λ h. h
unanswered e Release bound other none (Taken shown) new = λ h. h

-- a lock of what is locked leaves the book as it is
locked_twice : ¬ Moves Locked Lock
locked_twice (inl h) = let new = ap (λ (b : Book). option_map_or (λ (k : LedgerEntry). k.entry) (map.get b.entries alpha_1) Absent) h.1 in let was = absent in let is = moved_entry map.empty (record { entry = Locked; terms = terms_of map.empty alpha_1 quarter }) in absurd cc
locked_twice (inr h) = let line = h.0 in absurd cc

pub returns-clause-lines : goal.returns-clause-lines
returns-clause-lines c = record {
  locks = inr (refl, (omega (arith, free_first)), refl);
  burns = inr (refl, tt, refl);
  mints = inr (refl, (1000, refl, (omega (arith, total_first))), refl);
  assigns = inr (refl, tt, refl);
  releases_nothing = inr (refl, tt, refl);
  releases_a_lock = inr (refl, tt, refl);
  releases_a_mint = inr (refl, tt, refl);
  locked_already = inl (refl, refl);
  burnt_already = inl (refl, refl);
  minted_already = inl (refl, refl);
  assigned_already = inl (refl, refl);
  released_already = inl (refl, refl);
  lock_of_a_released = (search rules, search rules, refl, refl);
  mint_of_a_released = (search rules, search rules, refl, refl);
  not_locked_twice = locked_twice;
  not_another_entry_shown = λ h. let same = h.2 in absurd cc;
  not_taken_by_itself = λ h. h.1 refl;
  no_burn_of_nothing = unanswered Absent Burn refl (search rules) refl;
  no_burn_of_a_mint = unanswered Minted Burn refl (search rules) refl;
  no_assignment_of_a_lock = unanswered Locked Assign refl (search rules) refl;
  no_release_of_a_burn = unanswered Burnt Release refl (search rules) refl;
  no_release_of_an_assignment = unanswered Assigned Release refl (search rules) refl;
}

-- ---- answers by amounts

to_rule : (op : LedgerOp) (terms : Terms) (answer : Answer) (new : Book) → RuleOn new_book Absent op alpha_1 terms answer new → AnswersTo op terms answer new
to_rule op terms answer new h = subst (λ e. RuleOn new_book e op alpha_1 terms answer new) (sym absent) h

of_rule : (op : LedgerOp) (terms : Terms) (answer : Answer) (new : Book) → AnswersTo op terms answer new → RuleOn new_book Absent op alpha_1 terms answer new
of_rule op terms answer new h = subst (λ e. RuleOn new_book e op alpha_1 terms answer new) absent h

cap_is : (cap : ℕ) → Some 1000 ≡ Some cap → cap ≡ 1000
cap_is cap e = cc

one_more : (new : Book) → RuleOn new_book Absent Lock alpha_1 past_what_is_free Done new → ⊥
one_more new (inl h) = let bad = h.0 in absurd cc
one_more new (inr h) = let fits = h.1 in absurd (omega (arith, fits, free_first))

past_cap : (new : Book) → RuleOn new_book Absent Mint alpha_1 past_what_is_free Done new → ⊥
past_cap new (inl h) = let bad = h.0 in absurd cc
past_cap new (inr h) = let is = cap_is h.1.0 h.1.1 in let fits = h.1.2 in absurd (omega (arith, is, fits, total_first))

pub returns-clause-answers : goal.returns-clause-answers
returns-clause-answers c = record {
  all_that_is_free = to_rule Lock at_most_free Done _ (inr (refl, omega (arith, free_first), refl));
  one_more = to_rule Lock past_what_is_free (NoFunds 500) _ (refl, sym free_first, lit< tt, refl);
  up_to_the_cap = to_rule Mint at_most_free Done _ (inr (refl, (1000, refl, omega (arith, total_first)), refl));
  past_the_cap = to_rule Mint past_what_is_free (Capped 500) _ (refl, sym total_first, (1000, refl, lit< tt), refl);
  unknown_asset = to_rule Mint of_salt UnknownAsset _ (refl, refl, refl);
  none_of_the_asset = to_rule Lock of_salt (NoFunds 0) _ (refl, sym free_salt, lit< tt, refl);
  not_one_more = λ new h. one_more new (of_rule Lock past_what_is_free Done new h);
  not_past_the_cap = λ new h. past_cap new (of_rule Mint past_what_is_free Done new h);
  not_within_funds = λ free new h. let r = of_rule Lock at_most_free (NoFunds free) new h in absurd (omega (arith, r.1, r.2, free_first));
  not_another_sum = λ new h. let r = of_rule Lock past_what_is_free (NoFunds 499) new h in absurd (omega (arith, r.1, free_first));
  not_within_the_cap = λ total new h. let r = of_rule Mint at_most_free (Capped total) new h in let is = cap_is r.2.0 r.2.1 in absurd (omega (arith, r.1, is, r.2.2, total_first));
  not_unknown = λ new h. let r = of_rule Mint quarter UnknownAsset new h in let bad = r.1 in absurd cc;
}

-- ---- entries that are kept

not_absent : Locked ≢ Absent
not_absent = search rules

other_absent : Absent ≡ entry_of (entries_with Locked) alpha_2
other_absent = sym (ap (λ o. option_map_or (λ (k : LedgerEntry). k.entry) o Absent) (map.get-insert sessions_total map.empty alpha_1 (record { entry = Locked; terms = quarter }) alpha_2 ∙ map.get-empty session_cmp alpha_2))

answer_on : (entry : Entry) (o : Option Answer) → (operation_on (book_with entry) Burn alpha_1 quarter entry).answer ≡ o → (operation (book_with entry) Burn alpha_1 quarter).answer ≡ o
unfolding operation
answer_on entry o e = ap (λ x. (operation_on (book_with entry) Burn alpha_1 quarter x).answer) (entry_is entry) ∙ e

pub returns-clause-entries : goal.returns-clause-entries
returns-clause-entries c = record {
  burn = subst (λ e. RuleOn (book_with Locked) e Burn alpha_1 at_most_free Done (moved (book_with Locked) Burn alpha_1 at_most_free)) (sym (entry_is Locked)) (inr (refl, tt, refl));
  kept_terms = sym (stands (entries_with Locked) alpha_1 at_most_free _ (found Locked) not_absent).1;
  new_terms = absent_terms map.empty alpha_1 at_most_free absent;
  another_session = record { found = other_absent; bound = refl; other = search rules; no_line = refl };
  not_out_of_order = λ entry h. let line = ap (leads Burn) (h.found ∙ entry_is Locked) in let none = h.no_line in absurd cc;
  as_a_function = answer_on Locked (Some Done) refl;
  out_of_order = answer_on Minted None refl;
}

other_entry : (k : LedgerEntry) → entry_of (map.insert map.empty alpha_2 k) alpha_1 ≡ Absent
other_entry k = ap (λ o. option_map_or (λ (x : LedgerEntry). x.entry) o Absent) (map.get-insert sessions_total map.empty alpha_2 k alpha_1 ∙ map.get-empty session_cmp alpha_1)

pub returns-clause-events : goal.returns-clause-events
returns-clause-events c = record {
  none = absent;
  locked = ap (λ t. map.insert map.empty alpha_1 (record { entry = Locked; terms = t })) (absent_terms map.empty alpha_1 quarter absent);
  burnt = moved_entry _ _;
  other_session = other_entry _;
  in_their_order = moved_entry _ _;
  founded = refl;
}
