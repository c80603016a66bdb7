-- A ledger of gold: 500 units are ann's, and there may be 1,000. What a session of 250 units, from ann to bob, does to it.
use Rattle.std.proofs.Common.{lit≤}
use Rattle.std.specs.Prelude.{◌≡◌, ◌≤◌, ℕ, [], ◌∷◌, Some, None}
use Rattle.satp_base.specs.Numbers.{greatest_amount}
use Rattle.std.specs.FinMap as map
use Rattle.satp_base.specs.Founding.{Founding}
use Rattle.satp_base.specs.LedgerAt.{ledger_at}
use Rattle.satp_base.specs.LedgerRule.{IsOutOfOrder, LedgerRule, RuleOn, entry_of, moved, operation, terms_of}
use Rattle.satp_base.specs.Ledgers.{Entries}
use Rattle.satp_base.specs.Money.{Book, cap_of, free_of, free_sum_of, total_of}
use Rattle.satp_base.specs.declared.area.Area.TheVariants.{Ledger}
use Rattle.satp_base.specs.declared.area.Event.TheVariants.{Acted, Founded, Synced}
use Rattle.satp_base.specs.declared.ledger.Answer.{Answer}
use Rattle.satp_base.specs.declared.ledger.Answer.TheVariants.{Done, NoFunds, UnknownAsset, Capped, Taken}
use Rattle.satp_base.specs.declared.ledger.Entry.{Entry}
use Rattle.satp_base.specs.declared.ledger.Entry.TheVariants.{Absent, Locked, Burnt, Minted, Assigned, Released}
use Rattle.satp_base.specs.declared.ledger.LedgerOp.{LedgerOp}
use Rattle.satp_base.specs.declared.ledger.LedgerOp.TheVariants.{Lock, Burn, Mint, Assign, Release}
use Rattle.satp_base.specs.declared.message.Terms.{Terms}
use Rattle.satp_examples.specs.Samples.{alpha_1, alpha_2, ann, bob, gold, quarter, salt, units}

abbrev pub with_gold : Founding
with_gold = record {
  assets = record { name = gold; cap = units 1000 (lit≤ tt) (lit≤ tt) } ∷ [];
  holds = record { asset = gold; owner = ann; amount = units 500 (lit≤ tt) (lit≤ tt) } ∷ [];
}

-- no operation yet
abbrev pub new_book : Book
new_book = record { genesis = with_gold; entries = map.empty }

-- the session has this entry
abbrev pub entries_with : Entry → Entries
entries_with entry = map.insert map.empty alpha_1 (record { entry = entry; terms = quarter })

abbrev pub book_with : Entry → Book
book_with entry = record { genesis = with_gold; entries = entries_with entry }

-- ---- amounts

-- what ann and bob are free to use, what all are, and how much there is
pub record Amounts (b : Book) (of_ann of_bob of_all total : ℕ) : Type 0 where
  pub ann_has : free_of b gold ann ≡ of_ann
  pub bob_has : free_of b gold bob ≡ of_bob
  pub all_have : free_sum_of b gold ≡ of_all
  pub there_are : total_of b gold ≡ total

pub record AmountsByEntry : Type 0 where
  pub at_first : Amounts new_book 500 0 500 500
  pub locked : Amounts (book_with Locked) 250 0 250 500
  pub burnt : Amounts (book_with Burnt) 250 0 250 250
  pub minted : Amounts (book_with Minted) 500 0 500 750
  pub assigned : Amounts (book_with Assigned) 500 250 750 750
  pub released : Amounts (book_with Released) 500 0 500 500
  pub another_asset : (entry : Entry) → free_of (book_with entry) salt ann ≡ 0
  pub cap : cap_of with_gold gold ≡ Some 1000
  pub no_cap : cap_of with_gold salt ≡ None

-- ---- the rule, of an entry

-- the same with another amount or asset
abbrev pub with_amount : (n : ℕ) → 1 ≤ n → n ≤ greatest_amount → Terms
with_amount n low high = record quarter { amount = units n low high }

abbrev pub of_salt : Terms
of_salt = record quarter { asset = salt }

-- where the session has this entry, the operation is answered so, and leaves this
abbrev pub Answers : Entry → LedgerOp → Answer → Book → Type 0
Answers entry op answer new = RuleOn new_book entry op alpha_1 quarter answer new

-- it moves the entry, it leaves it, or it is answered by nothing
abbrev pub Moves : Entry → LedgerOp → Type 0
Moves entry op = Answers entry op Done (moved new_book op alpha_1 quarter)

abbrev pub Stays : Entry → LedgerOp → Answer → Type 0
Stays entry op answer = Answers entry op answer new_book

abbrev pub HasNoAnswer : Entry → LedgerOp → Type 0
HasNoAnswer entry op = (answer : Answer) (new : Book) → ¬ Answers entry op answer new

pub record LinesOfTheRule : Type 0 where
  pub locks : Moves Absent Lock
  pub burns : Moves Locked Burn
  pub mints : Moves Absent Mint
  pub assigns : Moves Minted Assign
  pub releases_nothing : Moves Absent Release
  pub releases_a_lock : Moves Locked Release
  pub releases_a_mint : Moves Minted Release
  -- done before
  pub locked_already : Stays Locked Lock Done
  pub burnt_already : Stays Burnt Burn Done
  pub minted_already : Stays Minted Mint Done
  pub assigned_already : Stays Assigned Assign Done
  pub released_already : Stays Released Release Done
  -- a lock or a mint where the session has come to another entry
  pub lock_of_a_released : Stays Released Lock (Taken Released)
  pub mint_of_a_released : Stays Released Mint (Taken Released)
  -- what was done is done once
  pub not_locked_twice : ¬ Moves Locked Lock
  pub not_another_entry_shown : ¬ Stays Released Lock (Taken Burnt)
  pub not_taken_by_itself : ¬ Stays Locked Lock (Taken Locked)
  -- out of order
  pub no_burn_of_nothing : HasNoAnswer Absent Burn
  pub no_burn_of_a_mint : HasNoAnswer Minted Burn
  pub no_assignment_of_a_lock : HasNoAnswer Locked Assign
  pub no_release_of_a_burn : HasNoAnswer Burnt Release
  pub no_release_of_an_assignment : HasNoAnswer Assigned Release

-- ---- the rule, of amounts

-- a lock or mint of so many units, of a session without an entry
abbrev pub AnswersTo : LedgerOp → Terms → Answer → Book → Type 0
AnswersTo op terms answer new = LedgerRule new_book op alpha_1 terms answer new

abbrev pub at_most_free : Terms
at_most_free = with_amount 500 (lit≤ tt) (lit≤ tt)

abbrev pub past_what_is_free : Terms
past_what_is_free = with_amount 501 (lit≤ tt) (lit≤ tt)

pub record AmountsOfTheRule : Type 0 where
  -- ann has 500, and 500 more are within the cap
  pub all_that_is_free : AnswersTo Lock at_most_free Done (moved new_book Lock alpha_1 at_most_free)
  pub one_more : AnswersTo Lock past_what_is_free (NoFunds 500) new_book
  pub up_to_the_cap : AnswersTo Mint at_most_free Done (moved new_book Mint alpha_1 at_most_free)
  pub past_the_cap : AnswersTo Mint past_what_is_free (Capped 500) new_book
  pub unknown_asset : AnswersTo Mint of_salt UnknownAsset new_book
  -- an asset that isn't there is one of which nobody has any
  pub none_of_the_asset : AnswersTo Lock of_salt (NoFunds 0) new_book
  pub not_one_more : (new : Book) → ¬ AnswersTo Lock past_what_is_free Done new
  pub not_past_the_cap : (new : Book) → ¬ AnswersTo Mint past_what_is_free Done new
  pub not_within_funds : (free : ℕ) (new : Book) → ¬ AnswersTo Lock at_most_free (NoFunds free) new
  pub not_another_sum : (new : Book) → ¬ AnswersTo Lock past_what_is_free (NoFunds 499) new
  pub not_within_the_cap : (total : ℕ) (new : Book) → ¬ AnswersTo Mint at_most_free (Capped total) new
  pub not_unknown : (new : Book) → ¬ AnswersTo Mint quarter UnknownAsset new

-- ---- the same over entries that are kept

pub record OperationsOnEntries : Type 0 where
  -- the entry is looked up by its session, and the terms are those of the lock
  pub burn : LedgerRule (book_with Locked) Burn alpha_1 at_most_free Done (moved (book_with Locked) Burn alpha_1 at_most_free)
  pub kept_terms : terms_of (entries_with Locked) alpha_1 at_most_free ≡ quarter
  pub new_terms : terms_of map.empty alpha_1 at_most_free ≡ at_most_free
  pub another_session : IsOutOfOrder (book_with Locked) Burn alpha_2 Absent
  pub not_out_of_order : (entry : Entry) → ¬ IsOutOfOrder (book_with Locked) Burn alpha_1 entry
  pub as_a_function : (operation (book_with Locked) Burn alpha_1 quarter).answer ≡ Some Done
  pub out_of_order : (operation (book_with Minted) Burn alpha_1 quarter).answer ≡ None

-- ---- the ledger that a list of events leaves

pub record EntriesOfEvents : Type 0 where
  pub none : entry_of (ledger_at map.empty []) alpha_1 ≡ Absent
  pub locked : ledger_at map.empty (Acted Lock alpha_1 quarter ∷ []) ≡ entries_with Locked
  pub burnt : entry_of (ledger_at map.empty (Acted Lock alpha_1 quarter ∷ Synced Ledger ∷ Acted Burn alpha_1 quarter ∷ [])) alpha_1 ≡ Burnt
  pub other_session : entry_of (ledger_at map.empty (Acted Lock alpha_2 quarter ∷ [])) alpha_1 ≡ Absent
  pub in_their_order : entry_of (ledger_at map.empty (Acted Burn alpha_1 quarter ∷ Acted Lock alpha_1 quarter ∷ [])) alpha_1 ≡ Locked
  -- a founding leaves no entry
  pub founded : ledger_at (entries_with Locked) (Founded ∷ []) ≡ map.empty
