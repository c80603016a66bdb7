-- The small ledgers of the examples: their entries and amounts.
use Rattle.std.proofs.Common.{Bool, option_map, ◌≡◌, ◌≤◌, ◌+◌, ◌-◌, ℕ, true, false, List, [], ◌∷◌, Some, None, refl, sym, ap, ◌∙◌, subst, inl, inr, arith, lit≤, cond, rules}
use Rattle.std.specs.FinMap as map
use Rattle.std.specs.List.{sum_by}
use Rattle.std.specs.Option.{option_map_or}
use Rattle.std.specs.Prelude.{unwrap_or}
use Rattle.satp_base.specs.Founding.{counted, equal_names}
use Rattle.satp_base.specs.Genesis.{IsGenesis}
use Rattle.satp_base.specs.GenesisText.{nothing}
use Rattle.satp_base.specs.Keys.{session_cmp}
use Rattle.satp_base.specs.declared.genesis.Asset.{Asset}
use Rattle.satp_examples.specs.Genesis.{gold_1000}
use Rattle.satp_base.specs.LedgerRule.{IsOutOfOrder, LedgerRule, RuleOn, entry_of, moved, lock_on, moves, operation, operation_on, stays, terms_of}
use Rattle.satp_base.specs.Ledgers.{Entries}
use Rattle.satp_base.specs.Money.{Book, free_of, given, given_to_all, held, held_of_all, pledged, taken, taken_of_all, total_of}
use Rattle.satp_base.specs.declared.ledger.Answer.TheVariants.{Done}
use Rattle.satp_base.specs.declared.ledger.Entry.{Entry}
use Rattle.satp_base.specs.declared.ledger.Entry.TheVariants.{Absent, Locked}
use Rattle.satp_base.specs.declared.ledger.LedgerEntry.{LedgerEntry}
use Rattle.satp_base.specs.declared.ledger.LedgerOp.{LedgerOp}
use Rattle.satp_base.specs.declared.ledger.LedgerOp.TheVariants.{Lock, Burn}
use Rattle.satp_base.specs.declared.message.Terms.{Terms}
use Rattle.satp_base.specs.declared.name.Name.{Name}
use Rattle.satp_base.specs.declared.session.SessionId.{SessionId}
use Rattle.satp_base.proofs.SessionLemmas.{exact_sessions, sessions_total}
use Rattle.satp_money.proofs.Maps.{entries_empty}
use Rattle.satp_examples.specs.Samples.{alpha_1, ann, bob, gold, quarter, salt}
use Rattle.satp_examples.specs.Ledgers.{Amounts, book_with, entries_with, new_book, with_gold}

-- ---- the entries of the maps

pub no_entries : map.entries new_book.entries ≡ []
no_entries = entries_empty session_cmp sessions_total exact_sessions

pub one_entry : (entry : Entry) → map.entries (entries_with entry) ≡ (alpha_1, record { entry = entry; terms = quarter }) ∷ []
one_entry entry = map.entries-insert sessions_total map.empty alpha_1 (record { entry = entry; terms = quarter }) ∙ ap (map.put session_cmp alpha_1 (record { entry = entry; terms = quarter })) no_entries

abbrev pub free_among : List (SessionId × LedgerEntry) → Name → Name → ℕ
free_among es asset owner = (held with_gold asset owner + sum_by (λ e. given asset owner e.1) es) - sum_by (λ e. taken asset owner e.1) es

abbrev pub free_sum_among : List (SessionId × LedgerEntry) → Name → ℕ
free_sum_among es asset = (held_of_all with_gold asset + sum_by (λ e. given_to_all asset e.1) es) - sum_by (λ e. taken_of_all asset e.1) es

abbrev pub total_among : List (SessionId × LedgerEntry) → Name → ℕ
total_among es asset = free_sum_among es asset + sum_by (λ e. pledged asset e.1) es

pub amounts : (entries : Entries) (es : List (SessionId × LedgerEntry)) → map.entries entries ≡ es → Amounts (record { genesis = with_gold; entries = entries }) (free_among es gold ann) (free_among es gold bob) (free_sum_among es gold) (total_among es gold)
amounts entries es is = record {
  ann_has = ap (λ x. free_among x gold ann) is;
  bob_has = ap (λ x. free_among x gold bob) is;
  all_have = ap (λ x. free_sum_among x gold) is;
  there_are = ap (λ x. total_among x gold) is;
}

pub free_first : free_of new_book gold ann ≡ 500
free_first = ap (λ x. free_among x gold ann) no_entries

pub free_salt : free_of new_book salt ann ≡ 0
free_salt = ap (λ x. free_among x salt ann) no_entries

pub total_first : total_of new_book gold ≡ 500
total_first = ap (λ x. total_among x gold) no_entries

-- ---- entries

pub absent : entry_of map.empty alpha_1 ≡ Absent
absent = ap (λ o. option_map_or (λ (k : LedgerEntry). k.entry) o Absent) (map.get-empty session_cmp alpha_1)

pub moved_entry : (m : Entries) (k : LedgerEntry) → entry_of (map.insert m alpha_1 k) alpha_1 ≡ k.entry
moved_entry m k = ap (λ o. option_map_or (λ (x : LedgerEntry). x.entry) o Absent) (map.get-insert sessions_total m alpha_1 k alpha_1)

pub found : (entry : Entry) → map.get (entries_with entry) alpha_1 ≡ Some (record { entry = entry; terms = quarter })
found entry = map.get-insert sessions_total map.empty alpha_1 (record { entry = entry; terms = quarter }) alpha_1

pub entry_is : (entry : Entry) → entry_of (entries_with entry) alpha_1 ≡ entry
entry_is entry = moved_entry map.empty (record { entry = entry; terms = quarter })

-- ---- operations

pub operation_is : (b : Book) (op : LedgerOp) (s : SessionId) (t : Terms) (e : Entry) → entry_of b.entries s ≡ e → operation b op s t ≡ operation_on b op s t e
unfolding operation
operation_is b op s t e is = ap (operation_on b op s t) is

pub lock_is : operation new_book Lock alpha_1 quarter ≡ moves new_book Lock alpha_1 quarter
lock_is = operation_is new_book Lock alpha_1 quarter Absent absent ∙ ap (lock_on new_book alpha_1 quarter) free_first

pub burn_is : operation new_book Burn alpha_1 quarter ≡ stays new_book None
burn_is = operation_is new_book Burn alpha_1 quarter Absent absent

pub locked_is : operation (book_with Locked) Lock alpha_1 quarter ≡ stays (book_with Locked) (Some Done)
locked_is = operation_is (book_with Locked) Lock alpha_1 quarter Locked (entry_is Locked)

-- the rule takes the lock, and leaves one book
pub lock_rule : LedgerRule new_book Lock alpha_1 quarter Done (moved new_book Lock alpha_1 quarter)
lock_rule = subst (λ e. RuleOn new_book e Lock alpha_1 quarter Done (moved new_book Lock alpha_1 quarter)) (sym absent) (inr (refl, omega (arith, free_first), refl))

lock_only : (new : Book) → RuleOn new_book Absent Lock alpha_1 quarter Done new → new ≡ moved new_book Lock alpha_1 quarter
lock_only new (inl h) = let bad = h.0 in absurd cc
lock_only new (inr h) = h.2

pub lock_leaves : (new : Book) → LedgerRule new_book Lock alpha_1 quarter Done new → new ≡ moved new_book Lock alpha_1 quarter
lock_leaves new h = lock_only new (subst (λ e. RuleOn new_book e Lock alpha_1 quarter Done new) absent h)

pub locked_rule : LedgerRule (book_with Locked) Lock alpha_1 quarter Done (book_with Locked)
locked_rule = subst (λ e. RuleOn (book_with Locked) e Lock alpha_1 quarter Done (book_with Locked)) (sym (entry_is Locked)) (inl (refl, refl))

pub burn_of_nothing : IsOutOfOrder new_book Burn alpha_1 Absent
burn_of_nothing = record { found = sym absent; bound = refl; other = search rules; no_line = refl }

burns_nothing : (new : Book) → RuleOn new_book Absent Burn alpha_1 quarter Done new → ⊥
burns_nothing new (inl h) = let bad = h.0 in absurd cc
burns_nothing new (inr h) = let bad = h.0 in absurd cc

pub no_burn : (new : Book) → ¬ LedgerRule new_book Burn alpha_1 quarter Done new
no_burn new h = burns_nothing new (subst (λ e. RuleOn new_book e Burn alpha_1 quarter Done new) absent h)

pub lock_changes : ¬ (new_book ≡ moved new_book Lock alpha_1 quarter)
lock_changes e = let same = ap (λ (b : Book). entry_of b.entries alpha_1) e in let was = absent in let is = moved_entry map.empty (record { entry = Locked; terms = terms_of map.empty alpha_1 quarter }) in absurd cc

-- ---- the founding

-- whether the asset is gold or not
within : (is : Bool) → 0 + counted is 500 ≤ unwrap_or (option_map (λ (x : Asset). x.cap.number) (cond is (Some gold_1000) None)) 0
within true = lit≤ tt
within false = lit≤ tt

pub gold_genesis : IsGenesis with_gold
gold_genesis = record { few_assets = lit≤ tt; few_holds = lit≤ tt; apart = (refl, tt); capped = λ asset. within (equal_names asset gold) }

pub no_genesis : IsGenesis nothing
no_genesis = record { few_assets = lit≤ tt; few_holds = lit≤ tt; apart = tt; capped = λ asset. lit≤ tt }
