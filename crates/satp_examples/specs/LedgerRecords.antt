-- Operations on the ledger of a site in memory, and records that go with a ledger.
use Rattle.std.specs.Prelude.{[], ◌∷◌, Option, Some, Result, Ok, Err}
use Rattle.satp_base.specs.Calls.{Told, ask_failed, asked, call_failed, made}
use Rattle.satp_base.specs.Money.{Book}
use Rattle.satp_base.specs.declared.ledger.ActFault.{ActFault}
use Rattle.satp_base.specs.declared.ledger.ActFault.TheVariants.{Failed}
use Rattle.satp_base.specs.declared.ledger.Answer.{Answer}
use Rattle.satp_base.specs.declared.ledger.Answer.TheVariants.{Done}
use Rattle.satp_base.specs.declared.ledger.Entry.TheVariants.{Locked}
use Rattle.satp_base.specs.declared.ledger.LedgerCall.{LedgerCall}
use Rattle.satp_base.specs.declared.ledger.LedgerCall.TheVariants.{Act}
use Rattle.satp_base.specs.declared.ledger.LedgerOp.TheVariants.{Lock}
use Rattle.satp_base.specs.declared.message.Terms.{Terms}
use Rattle.satp_base.specs.declared.record.Cause.TheVariants.{Aborted, LockRefused, MintCapped, UnknownAsset}
use Rattle.satp_base.specs.declared.record.Rec.{Rec}
use Rattle.satp_base.specs.declared.record.Rec.TheVariants.{Chose, Did}
use Rattle.satp_base.specs.declared.record.Way.TheVariants.{Back}
use Rattle.satp_sides.specs.Moves.{LedgerFits}
use Rattle.satp_memory.specs.Sites.{ActTells}
use Rattle.satp_examples.specs.Acts.{lock_event, locked}
use Rattle.satp_examples.specs.Calls.{two_calls}
use Rattle.satp_examples.specs.Ledgers.{at_most_free, book_with, new_book, past_what_is_free}
use Rattle.satp_examples.specs.Samples.{alpha_1, quarter}

-- ---- a site in memory

abbrev pub call : LedgerCall
call = Act Lock alpha_1 quarter

-- a lock of a new ledger is answered so, leaves this book, and is told so
abbrev pub LocksAndTells : Result Answer ActFault → Option Book → Told → Type 0
LocksAndTells result new told = ActTells Lock alpha_1 quarter (Some new_book) result new two_calls told

pub record OperationsThatAreTold : Type 0 where
  pub done : LocksAndTells (Ok Done) (Some locked) (asked call (lock_event ∷ []) two_calls)
  pub failed : LocksAndTells (Err Failed) (Some new_book) (ask_failed call [] two_calls)
  pub failed_and_only_counted : LocksAndTells (Err Failed) (Some new_book) (call_failed [] two_calls)
  pub not_failed_as_one_that_succeeded : ¬ LocksAndTells (Err Failed) (Some new_book) (asked call [] two_calls)
  pub not_done_without_its_event : ¬ LocksAndTells (Ok Done) (Some locked) (asked call [] two_calls)
  pub not_done_and_only_counted : ¬ LocksAndTells (Ok Done) (Some locked) (made 1 (lock_event ∷ []) two_calls)
  pub not_done_and_forgotten : ¬ LocksAndTells (Ok Done) (Some new_book) (asked call (lock_event ∷ []) two_calls)

-- ---- records of a session

-- the record of a session of these terms goes with this ledger
abbrev pub Fits : Book → Terms → Rec → Type 0
Fits b terms r = LedgerFits b alpha_1 terms r

pub record RecordsThatFit : Type 0 where
  pub locked : Fits (book_with Locked) quarter (Did Lock)
  pub refused : Fits new_book past_what_is_free (Chose (Back LockRefused))
  pub capped : Fits new_book past_what_is_free (Chose (Back MintCapped))
  pub an_abort : Fits new_book quarter (Chose (Back Aborted))
  pub not_done_before_it_is : ¬ Fits new_book quarter (Did Lock)
  pub not_refused_within_funds : ¬ Fits new_book at_most_free (Chose (Back LockRefused))
  pub not_capped_within_the_cap : ¬ Fits new_book at_most_free (Chose (Back MintCapped))
  pub not_unknown_where_it_is_known : ¬ Fits new_book quarter (Chose (Back UnknownAsset))
