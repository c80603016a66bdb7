-- What a site keeps of a gateway, and what a drill leaves.
use Rattle.std.specs.Prelude.{◌≡◌, List, Option, Some}
use Rattle.satp_base.specs.Calls.{Told}
use Rattle.satp_base.specs.Laws.{RestsAt}
use Rattle.satp_base.specs.Money.{Book}
use Rattle.satp_base.specs.declared.area.Area.TheVariants.{JournalA}
use Rattle.satp_drill.specs.declared.report.Report.{Report}
use Rattle.satp_drill_runs.specs.Reports.{Reported, report_of}
use Rattle.satp_log.specs.Journals.{IsJournal, payloads_of}
use Rattle.satp_points.specs.States.{GatewayState, Holds}
use Rattle.satp_records.specs.declared.stored.Setup.{Setup}
use Rattle.satp_schedule.specs.declared.line.Line.{Line}
use Rattle.satp_sides.specs.Points.{Side}

-- A site keeps a gateway that was set up so: each image of its journal is the payloads of the gateway's records at rest, and its ledger is the gateway's.
pub record Keeps (told : Told) (book : Option Book) (setup : Setup) (side : Side) : Type 0 where
  pub journal : IsJournal (payloads_of setup side.records) setup side.records
  pub rests : RestsAt told.trail JournalA (payloads_of setup side.records)
  pub ledger : book ≡ Some side.book

-- an open gateway has just what its site keeps
abbrev pub IsOpen : GatewayState → Told → Option Book → Type 0
IsOpen g told book = (setup : Setup) × (side : Side) × Holds g setup side.records × Keeps told book setup side

-- ---- the report

abbrev pub reported : Report → Reported
reported r = record { sessions = r.sessions; committed = r.committed; rolled_back = r.rolled_back; not_begun = r.not_begun; free_gold = r.free_gold }

-- Each site keeps a gateway, and the report counts, by the records and the ledgers of both, the sessions that the lines start.
abbrev pub Leaves : List Line → Report → Told → Option Book → Told → Option Book → Type 0
Leaves lines report told_a book_a told_b book_b =
    (setup_a : Setup) × (setup_b : Setup) × (a : Side) × (b : Side)
    × Keeps told_a book_a setup_a a × Keeps told_b book_b setup_b b
    × (reported report ≡ report_of lines a.records b.records a.book b.book)
