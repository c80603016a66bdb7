use Rattle.std.proofs.Common.{◌≡◌, ◌<◌, ◌⊎◌, ℕ, Bool, List, [], ◌∷◌, ◌++◌, length, map, refl, sym, ap, subst, inl, inr, arith, lit≤, lit<}
use Rattle.std.specs.Prelude.{Some}
use Rattle.satp_base.specs.LedgerRule.{Operation}
use Rattle.satp_base.specs.Money.{Book}
use Rattle.satp_base.specs.declared.genesis.Asset.{Asset}
use Rattle.satp_base.specs.declared.genesis.Hold.{Hold}
use Rattle.satp_base.specs.declared.ledger.LedgerKind.TheVariants.{Accounts}
use Rattle.satp_journal.specs.State.{Held}
use Rattle.satp_records.specs.Formats.{payload_of}
use Rattle.satp_records.specs.declared.stored.Stored.TheVariants as stored
use Rattle.satp_keeper.specs.Books.{IsFirstRefused, IsJournal, Operated, Runs, act_record, asset_record, hold_record}
use Rattle.satp_keeper.specs.Operating.{Stores}
use Rattle.satp_examples.specs.Acts.{locked}
use Rattle.satp_examples.specs.Appending.{at_rest}
use Rattle.satp_examples.specs.Keepers.{accounts, burn, kept, lock, lock_payload, outputs, stored_lock, with_lock}
use Rattle.satp_examples.specs.Ledgers.{new_book}
use Rattle.satp_examples.specs.Samples.{units}
use Rattle.satp_examples.proofs.Books.{gold_genesis, lock_changes, lock_is, lock_leaves, lock_rule, locked_is, locked_rule, no_burn}
use Rattle.satp_examples.proofs.KeptJournals.{byte_in, kind_alone, other_kind}
use Rattle.satp_examples.proofs.keepers.law_keepers.Goals as goal

unlike : (x y : ℕ) → (x < y) ⊎ (y < x) → x ≡ y → ⊥
unlike x y (inl h) e = omega (arith, h, e)
unlike x y (inr h) e = omega (arith, h, e)

-- ---- journals

another_book : Runs new_book (lock ∷ []) new_book → ⊥
another_book (next, rule, is) = lock_changes (subst (λ b. new_book ≡ b) (lock_leaves next rule) is)

out_of_order : (book : Book) → ¬ Runs new_book (burn ∷ []) book
out_of_order book (next, rule, is) = no_burn next rule

no_kind : IsJournal Accounts [] → ⊥
no_kind (book, (genesis, acts, l)) = let bad = l.list in absurd cc

no_second : (assets : List Asset) (holds : List Hold) (acts : List Operated) → accounts ∷ accounts ∷ [] ≡ map payload_of (stored.Kind Accounts ∷ (map asset_record assets ++ (map hold_record holds ++ map act_record acts))) → ⊥
unfolding byte_in
no_second [] [] [] e = unlike 2 1 (inr (lit< tt)) (ap length e)
no_second [] [] (a ∷ acts) e = unlike 16 19 (inl (lit< tt)) (ap (λ qs. byte_in qs 1 0) e)
no_second [] (h ∷ holds) acts e = unlike 16 18 (inl (lit< tt)) (ap (λ qs. byte_in qs 1 0) e)
no_second (a ∷ assets) holds acts e = unlike 16 17 (inl (lit< tt)) (ap (λ qs. byte_in qs 1 0) e)

two_kinds : IsJournal Accounts (accounts ∷ accounts ∷ []) → ⊥
two_kinds (book, (genesis, acts, l)) = no_second genesis.assets genesis.holds acts l.list

later : ¬ IsFirstRefused Accounts (outputs ∷ accounts ∷ []) 1
later f = elim f.before [
  | inl e ↦ unlike 1 0 (inr (lit< tt)) e
  | inr journal ↦ other_kind journal
]

pub returns-clause-journals : goal.returns-clause-journals
returns-clause-journals c = record {
  in_their_order = refl;
  of_one_lock = record { valid = gold_genesis; runs = (locked, lock_rule, refl); list = refl };
  not_another_book = λ l. another_book l.runs;
  not_without_its_record = λ l. unlike 3 4 (inl (lit< tt)) (ap length l.list);
  no_operation_out_of_order = out_of_order;
  the_kind_alone = kind_alone;
  not_another_kind = other_kind;
  not_nothing = no_kind;
  first_refused = record { within = lit< tt; before = inl refl; refused = other_kind };
  second_refused = record { within = lit< tt; before = inr kind_alone; refused = two_kinds };
  not_a_good_one = λ f. f.refused kind_alone;
  not_a_later_one = later;
}

-- ---- operations

abbrev changes : Operation → Bool
changes o = o.changes

pub returns-clause-operations : goal.returns-clause-operations
returns-clause-operations c = record {
  done = (refl, lock_rule, subst (λ b. Stores b lock_payload kept with_lock (Some at_rest) (Some stored_lock)) (sym (ap changes lock_is)) (refl, refl));
  done_before = (refl, locked_rule, subst (λ b. Stores b lock_payload kept kept (Some at_rest) (Some at_rest)) (sym (ap changes locked_is)) (refl, refl));
  no_memory = (refl, (refl, refl, refl));
  not_done_and_not_stored = λ h. unlike 1 2 (inl (lit< tt)) (ap (λ (x : Held). length x.payloads) (subst (λ b. Stores b lock_payload kept kept (Some at_rest) (Some at_rest)) (ap changes lock_is) h.2).0);
  not_stored_twice = λ h. unlike 2 1 (inr (lit< tt)) (ap (λ (x : Held). length x.payloads) (subst (λ b. Stores b lock_payload kept with_lock (Some at_rest) (Some stored_lock)) (ap changes locked_is) h.2).0);
  not_out_of_order = λ h. let bad = h.1.bound in absurd cc;
  not_failed_where_nothing_changes = λ held told h. let yes = h.1 in let no = ap changes locked_is in absurd cc;
  not_broken_at_once = λ h. let bad = h.0 in absurd cc;
  counted = (refl, refl);
  not_counted = refl;
  wanted = refl;
  not_wanted = refl;
}

pub returns-clause-order : goal.returns-clause-order
returns-clause-order c = record {
  an_asset = (units 1000 (lit≤ tt) (lit≤ tt), refl, refl, refl, record { few = lit< tt; unknown = refl; added = refl }, refl, refl);
  a_hold = (refl, record { few = lit< tt; cap = 1000; known = refl; fits = lit≤ tt; added = refl }, refl, refl);
  an_operation = (lock_rule, refl, refl);
  no_asset_behind_a_hold = λ new f. let bad = f.3 in absurd cc;
  no_hold_behind_an_operation = λ new f. let bad = f.0 in absurd cc;
  no_second_kind = λ new f. f;
  no_operation_out_of_order = λ new f. no_burn new.book f.0;
}
