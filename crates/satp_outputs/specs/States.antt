-- What a ledger of outputs tells: its book, and its outputs.
use Rattle.std.specs.FinMap as map
use Rattle.satp_base.specs.Money.{Book}
use Rattle.satp_outputs.specs.Unspent.{Unspent}
use Rattle.satp_outputs.specs.declared.outputs.Outputs.{Outputs}
use Rattle.satp_outputs.specs.declared.unspent.UnspentMap.{UnspentMap}

abbrev pub unspent_in : UnspentMap → Unspent
unspent_in m = record { outputs = m.outputs.entries; next = m.next }

abbrev pub unspent_of : Outputs → Unspent
unspent_of o = unspent_in o.unspent

abbrev pub book_of : Outputs → Book
book_of o = record { genesis = o.genesis; entries = map.from_entries o.entries.entries }
