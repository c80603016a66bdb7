-- What a scan of an image finds.
use Rattle.std.specs.Prelude.{◌≡◌, ℕ, List, length}
use Rattle.satp_base.specs.Format.{records, Stands}
use Rattle.satp_journal.specs.declared.scan.Scanned.{Scanned}

pub record IsScanned (image : List ℕ) (found : Scanned) : Type 0 where
  pub stands : Stands image found.stock.payloads
  pub place : found.gate ≡ length (records found.stock.payloads)
