-- The command `drill`: a schedule is carried out between two new gateways, and what it comes to is printed.
use Rattle.std.specs.Prelude.{◌≡◌, ◌≢◌, ℕ, List, [], ◌∷◌, ◌++◌, codes, decimal, map, Option}
use Rattle.satp_base.specs.Calls.{Told}
use Rattle.satp_base.specs.Lines.{Fails, IsLines}
use Rattle.satp_base.specs.Money.{Book}
use Rattle.satp_base.specs.declared.lines.LinesFault.TheVariants as fault
use Rattle.satp_drill.specs.Ends.{Leaves}
use Rattle.satp_drill.specs.declared.report.Report.{Report}
use Rattle.satp_outcome.specs.Outside.{Printed, PrintedPart, SinkState, StreamsState}
use Rattle.satp_outcome.specs.Streams.{Form, StreamRule}
use Rattle.satp_outcome.specs.declared.outcome.InputEnd.{InputEnd}
use Rattle.satp_outcome.specs.declared.outcome.InputEnd.TheVariants.{ScheduleLine}
use Rattle.satp_outcome.specs.declared.outcome.Outcome.{Outcome}
use Rattle.satp_outcome.specs.declared.outcome.Outcome.TheVariants.{Done, Memory, OutputFailed}
use Rattle.satp_outcome.specs.declared.reply.Reply.{Reply}
use Rattle.satp_outcome.specs.declared.reply.Reply.TheVariants.{Lines, Refuses}
use Rattle.satp_schedule.specs.Generator.{generated}
use Rattle.satp_schedule.specs.Lines.{AddsLine, fields_of, most_bytes}
use Rattle.satp_schedule.specs.declared.line.Line.{Line}

-- ---- the line

abbrev pub numbered : List ℕ → ℕ → List ℕ
numbered words n = words ++ decimal n

-- `drill <seed>: sessions <s>, committed <c>, rolled back <r>, not begun <n>, free gold <g>`
abbrev pub report_line : ℕ → Report → List ℕ
report_line seed r =
    numbered (codes "drill ") seed ++ numbered (codes ": sessions ") r.sessions ++ numbered (codes ", committed ") r.committed
    ++ numbered (codes ", rolled back ") r.rolled_back ++ numbered (codes ", not begun ") r.not_begun ++ numbered (codes ", free gold ") r.free_gold ++ 10 ∷ []

-- a drill of these lines may report this: it leaves two sites, by which the report counts
abbrev pub Reports : List Line → Report → Type 0
Reports lines report = (told_a : Told) × (book_a : Option Book) × (told_b : Told) × (book_b : Option Book) × Leaves lines report told_a book_a told_b book_b

-- the text is the line of such a report
abbrev pub Tells : ℕ → List Line → List ℕ → Type 0
Tells seed lines text = (report : Report) × Reports lines report × (text ≡ report_line seed report)

-- ---- the schedule of a seed

-- the line is told of the lines that the seed gives
abbrev pub SeedTells : ℕ → List ℕ → Type 0
SeedTells seed text = (lines : List Line) × (map fields_of lines ≡ generated seed) × Tells seed lines text

-- The line is printed, or a write of it fails; or no memory is found, and nothing is printed.
abbrev pub SeedRule : ℕ → SinkState → SinkState → Outcome → Type 0
SeedRule seed b a Done = (text : List ℕ) × SeedTells seed text × Printed text b a
SeedRule seed b a OutputFailed = (text : List ℕ) × SeedTells seed text × PrintedPart text b a
SeedRule seed b a Memory = a ≡ b
SeedRule seed b a _ = ⊥

-- ---- a schedule on the input

-- each byte of the input is one of the schedule's text
abbrev pub schedule_form : Form
schedule_form = record { longest = most_bytes; most = most_bytes; text_of = λ bytes. bytes }

-- the first line that may not stand there
abbrev pub schedule_refuses : List ℕ → InputEnd → Type 0
schedule_refuses text (ScheduleLine number) = Fails AddsLine most_bytes text [] (fault.Line number)
schedule_refuses text _ = ⊥

abbrev pub schedule_says : List ℕ → Reply → Type 0
schedule_says text (Lines told) = (lines : List Line) × IsLines AddsLine most_bytes text [] lines × Tells 0 lines told
schedule_says text (Refuses end) = schedule_refuses text end

-- ---- the command

-- For the seed 0 the schedule is read from the input; for any other it is that of the seed, and the input is left alone.
pub record DrillRule (seed : ℕ) (b a : StreamsState) (outcome : Outcome) : Type 0 where
  pub read : seed ≡ 0 → StreamRule schedule_form schedule_says b a outcome
  pub made : seed ≢ 0 → (a.input ≡ b.input) × SeedRule seed b.out a.out outcome
