-- What calls on a ledger may answer, and what they leave of what it tells.
use Rattle.std.specs.Prelude.{◌+◌, ℕ, List, [], ◌∷◌, Option, Some, None, Result, Ok, Err}
use Rattle.std.specs.FinMap as map
use Rattle.satp_base.specs.Acts.{ActsOn, Applies, Asks, FoundEvents, FoundsBook, MayAdd, MayAnswer, MayRefuse, founded}
use Rattle.satp_base.specs.Calls.{ask_failed, asked, call_failed, made}
use Rattle.satp_base.specs.LedgerRule.{moved}
use Rattle.satp_base.specs.Money.{Book, held, held_of_all}
use Rattle.satp_base.specs.Soundness.{IsSound}
use Rattle.satp_base.specs.declared.area.Event.{Event}
use Rattle.satp_base.specs.declared.area.Event.TheVariants.{Acted, Founded}
use Rattle.satp_base.specs.declared.ledger.ActFault.{ActFault}
use Rattle.satp_base.specs.declared.ledger.ActFault.TheVariants as act
use Rattle.satp_base.specs.declared.ledger.Answer.{Answer}
use Rattle.satp_base.specs.declared.ledger.Answer.TheVariants.{Done, NoFunds, UnknownAsset}
use Rattle.satp_base.specs.declared.ledger.CoreFault.TheVariants as core
use Rattle.satp_base.specs.declared.ledger.Entry.{Entry}
use Rattle.satp_base.specs.declared.ledger.Entry.TheVariants.{Absent, Locked, Burnt}
use Rattle.satp_base.specs.declared.ledger.LedgerCall.TheVariants.{Raise}
use Rattle.satp_base.specs.declared.ledger.LedgerOp.TheVariants.{Lock, Burn, Mint}
use Rattle.satp_base.specs.declared.name.Name.{Name}
use Rattle.satp_money.specs.Amounts.{Agrees}
use Rattle.satp_examples.specs.Calls.{two_calls}
use Rattle.satp_examples.specs.Ledgers.{book_with, new_book, past_what_is_free, with_gold}
use Rattle.satp_examples.specs.Samples.{alpha_1, quarter}

abbrev pub lock_event : Event
lock_event = Acted Lock alpha_1 quarter

-- the book behind a lock
abbrev pub locked : Book
locked = moved new_book Lock alpha_1 quarter

-- a lock of the new ledger answers so, with these events, and tells this book
abbrev pub Locks : Result Answer ActFault → List Event → Option Book → Type 0
Locks result events new = ActsOn Lock alpha_1 quarter new_book result events new

pub record OperationsOfALedger : Type 0 where
  pub done : Locks (Ok Done) (lock_event ∷ []) (Some locked)
  pub done_before : ActsOn Lock alpha_1 quarter (book_with Locked) (Ok Done) [] (Some (book_with Locked))
  pub failed_without_effect : Locks (Err act.Failed) [] (Some new_book)
  pub failed_behind_its_effect : Locks (Err act.Failed) (lock_event ∷ []) (Some locked)
  pub out_of_order : ActsOn Burn alpha_1 quarter new_book (Err (act.OutOfOrder Absent)) [] (Some new_book)
  pub not_done_without_its_event : ¬ Locks (Ok Done) [] (Some locked)
  pub not_done_and_told_no_more : ¬ Locks (Ok Done) (lock_event ∷ []) None
  -- nor does a ledger fall silent by one that failed
  pub not_failed_and_told_no_more : ¬ Locks (Err act.Failed) [] None
  pub not_told_no_more_after_its_effect : ¬ Locks (Err act.Failed) (lock_event ∷ []) None
  pub not_failed_after_its_effect_without_its_event : ¬ Locks (Err act.Failed) [] (Some locked)
  pub no_event_where_nothing_changes : ¬ ActsOn Lock alpha_1 quarter (book_with Locked) (Ok Done) (lock_event ∷ []) (Some (book_with Locked))
  pub not_out_of_order : ¬ Locks (Err (act.OutOfOrder Absent)) [] (Some new_book)

pub record CallsOfALedger : Type 0 where
  pub lock_may_lack_funds : MayAnswer Lock (NoFunds 0)
  pub burn_may_not : ¬ MayAnswer Burn (NoFunds 0)
  pub mint_may_not : ¬ MayAnswer Mint (NoFunds 0)
  pub lock_knows_no_assets : ¬ MayAnswer Lock UnknownAsset
  -- out of order only over an entry that isn't moved and isn't the result
  pub burn_of_nothing_may_be_refused : MayRefuse Burn (act.OutOfOrder Absent)
  pub burn_of_the_locked_may_not : ¬ MayRefuse Burn (act.OutOfOrder Locked)
  pub burn_of_the_burnt_may_not : ¬ MayRefuse Burn (act.OutOfOrder Burnt)
  pub lock_never_is : (entry : Entry) → ¬ MayRefuse Lock (act.OutOfOrder entry)
  pub lock_may_fail : MayRefuse Lock act.Failed
  -- an event only of what is done, or may have been
  pub may_be_done_now : MayAdd lock_event (Ok Done) (lock_event ∷ [])
  pub may_be_done_before : MayAdd lock_event (Ok Done) []
  pub may_have_failed : MayAdd lock_event (Err act.Failed) (lock_event ∷ [])
  pub not_refused_and_done : ¬ MayAdd lock_event (Ok (NoFunds 0)) (lock_event ∷ [])
  pub not_out_of_order_and_done : ¬ MayAdd lock_event (Err (act.OutOfOrder Locked)) (lock_event ∷ [])
  pub not_twice : ¬ MayAdd lock_event (Ok Done) (lock_event ∷ lock_event ∷ [])
  -- a call is told by name; a failed one may be counted alone
  pub told : Asks {T = ℕ} {E = ℕ} Raise [] (Ok 0) (Some two_calls) (Some (asked Raise [] two_calls))
  pub told_that_it_failed : Asks {T = ℕ} {E = ℕ} Raise [] (Err 0) (Some two_calls) (Some (ask_failed Raise [] two_calls))
  pub counted_alone : Asks {T = ℕ} {E = ℕ} Raise [] (Err 0) (Some two_calls) (Some (call_failed [] two_calls))
  pub not_counted_alone : ¬ Asks {T = ℕ} {E = ℕ} Raise [] (Ok 0) (Some two_calls) (Some (made 1 [] two_calls))
  pub not_failed_as_one_that_succeeded : ¬ Asks {T = ℕ} {E = ℕ} Raise [] (Err 0) (Some two_calls) (Some (asked Raise [] two_calls))
  pub not_counted_as_one_that_succeeded : ¬ Asks {T = ℕ} {E = ℕ} Raise [] (Err 0) (Some two_calls) (Some (made 1 [] two_calls))
  pub not_uncounted : ¬ Asks {T = ℕ} {E = ℕ} Raise [] (Err 0) (Some two_calls) (Some two_calls)

pub record FoundingsOfALedger : Type 0 where
  pub tells_the_book : FoundsBook {T = ℕ} {E = ℕ} with_gold (Ok 0) (Some two_calls) (Some (founded with_gold))
  pub not_another_book : ¬ FoundsBook {T = ℕ} {E = ℕ} with_gold (Ok 0) (Some two_calls) (Some (book_with Locked))
  pub not_untold : ¬ FoundsBook {T = ℕ} {E = ℕ} with_gold (Ok 0) (Some two_calls) None
  pub failed : FoundsBook {T = ℕ} {E = ℕ} with_gold (Err 0) (Some two_calls) None
  pub not_told_where_it_failed : ¬ FoundsBook {T = ℕ} {E = ℕ} with_gold (Err 0) (Some two_calls) (Some (founded with_gold))
  pub its_event : FoundEvents {T = ℕ} {E = ℕ} (Ok 0) (Founded ∷ [])
  pub not_without_it : ¬ FoundEvents {T = ℕ} {E = ℕ} (Ok 0) []
  pub failed_without_it : FoundEvents {T = ℕ} {E = ℕ} (Err 0) []

pub record LedgersInMemory : Type 0 where
  pub out_of_order : Applies Burn alpha_1 quarter new_book (Err (core.OutOfOrder Absent)) new_book
  pub no_memory : Applies Lock alpha_1 quarter new_book (Err core.Memory) new_book
  pub not_half_done : ¬ Applies Lock alpha_1 quarter new_book (Err core.Memory) (book_with Locked)
  pub not_another_entry : ¬ Applies Burn alpha_1 quarter new_book (Err (core.OutOfOrder Locked)) new_book

-- ann's 501 units are locked, of 500
abbrev pub overdrawn : Book
overdrawn = record { genesis = with_gold; entries = map.insert map.empty alpha_1 (record { entry = Locked; terms = past_what_is_free }) }

pub record SoundBooks : Type 0 where
  pub new : IsSound new_book
  pub not_overdrawn : ¬ IsSound overdrawn

-- what is kept as free, beside the book of a new ledger
abbrev pub each_free : Name → Name → ℕ
each_free asset owner = held with_gold asset owner

abbrev pub all_free : Name → ℕ
all_free asset = held_of_all with_gold asset

pub record AmountsThatAgree : Type 0 where
  pub as_held : Agrees new_book each_free all_free
  pub not_nothing : ¬ Agrees new_book (λ asset owner. 0) all_free
  pub not_another_sum : ¬ Agrees new_book each_free (λ asset. all_free asset + 1)
  pub not_behind_a_lock : ¬ Agrees (book_with Locked) each_free all_free
