-- The book of a ledger of accounts.
use Rattle.std.specs.FinMap as map
use Rattle.satp_base.specs.Money.{Book}
use Rattle.satp_accounts.specs.declared.accounts.Accounts.{Accounts}

abbrev pub book_of : Accounts → Book
book_of a = record { genesis = a.genesis; entries = map.from_entries a.entries.entries }
