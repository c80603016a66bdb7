-- How a gateway goes from one point to the next: a move that its site made, and one that failed.
use Rattle.std.specs.Prelude.{◌≡◌, true, List, [], ◌∷◌, ◌++◌, Option, Some, Result, Ok, Err}
use Rattle.satp_base.specs.Acts.{ActsOn, Asks}
use Rattle.satp_base.specs.Calls.{Told}
use Rattle.satp_base.specs.LedgerRule.{operation}
use Rattle.satp_base.specs.Money.{Book}
use Rattle.satp_base.specs.Trail.{KeepsModel}
use Rattle.satp_base.specs.declared.area.Event.{Event}
use Rattle.satp_base.specs.declared.ledger.ActFault.{ActFault}
use Rattle.satp_base.specs.declared.ledger.Answer.{Answer}
use Rattle.satp_base.specs.declared.ledger.LedgerCall.TheVariants.{Act}
use Rattle.satp_base.specs.declared.ledger.LedgerOp.{LedgerOp}
use Rattle.satp_base.specs.declared.message.Terms.{Terms}
use Rattle.satp_base.specs.declared.session.SessionId.{SessionId}
use Rattle.satp_journal.specs.Appending.{AppendAnswers, AppendRests}
use Rattle.satp_journal.specs.State.{Held}
use Rattle.satp_journal.specs.declared.fault.JournalFault.TheVariants.{Disk}
use Rattle.satp_log.specs.Journals.{party_of, payload_in}
use Rattle.satp_records.specs.declared.stored.Setup.{Setup}
use Rattle.satp_sides.specs.Logs.{MayCome}
use Rattle.satp_sides.specs.Points.{Move, Appends, Acts, Says, Side, Stored, Text, moved_by}
use Rattle.satp_stops.specs.Stops.{told_steps}
use Rattle.satp_points.specs.Answers.{Breaks, Goes}
use Rattle.satp_points.specs.States.{GatewayState, IsAt, Tells, area_of, is_broken, kept_of, steps_of, tells}

-- an append of a record that may come
abbrev pub AppendGoes : Type 0
AppendGoes =
    (x : Stored) (old new : Held) (told_old told_new : Option Told) (book : Option Book) (setup : Setup) (side : Side) (t : Told)
    → IsAt old (tells told_old book) setup side t → MayCome (party_of setup) side.records x
    → AppendAnswers (payload_in x) old new told_old told_new (Ok tt) → AppendRests (payload_in x) old told_old told_new
    → Goes old setup side (Appends x ∷ []) t new (tells told_new book)

-- a failed one leaves a broken journal, and one of its calls failed
abbrev pub AppendBreaks : Type 0
AppendBreaks =
    (x : Stored) (old new : Held) (told_old told_new : Option Told) (book : Option Book) (setup : Setup) (side : Side) (t : Told)
    → IsAt old (tells told_old book) setup side t → AppendAnswers (payload_in x) old new told_old told_new (Err Disk)
    → Breaks old setup side (Appends x ∷ []) t new (tells told_new book)

-- An operation that the ledger answered. The gateway itself is as it was.
abbrev pub ActGoes : Type 0
ActGoes =
    (s : SessionId) (op : LedgerOp) (terms : Terms) (answer : Answer) (events : List Event) (g : GatewayState) (told_old told_new : Option Told) (book_old book_new : Option Book)
    (setup : Setup) (side : Side) (t : Told)
    → let done : Result Answer ActFault = Ok answer in
    IsAt g (tells told_old book_old) setup side t → ActsOn op s terms side.book done events book_new → Asks (Act op s terms) events done told_old told_new
    → ((u : Told) → told_new ≡ Some u → KeepsModel u.trail)
    → Goes g setup side (Acts s op terms ∷ []) t g (tells told_new book_new) × ((operation side.book op s terms).answer ≡ Some answer)

-- one that it did not answer, or that was out of order
abbrev pub ActBreaks : Type 0
ActBreaks =
    (s : SessionId) (op : LedgerOp) (terms : Terms) (fault : ActFault) (events : List Event) (old new : GatewayState) (told_old told_new : Option Told) (book_old book_new : Option Book)
    (setup : Setup) (side : Side) (t : Told)
    → let failed : Result Answer ActFault = Err fault in
    IsAt old (tells told_old book_old) setup side t → ActsOn op s terms side.book failed events book_new → Asks (Act op s terms) events failed told_old told_new
    → is_broken new ≡ true
    → Breaks old setup side (Acts s op terms ∷ []) t new (tells told_new book_new)

-- the saying of a text changes nothing
abbrev pub SayingGoes : Type 0
SayingGoes = (g : GatewayState) (site : Tells) (setup : Setup) (side : Side) (t : Told) (text : Text) → IsAt g site setup side t → Goes g setup side (Says text ∷ []) t g site

-- Moves after moves. Where the later ones broke, or the first ones did, all of them broke.
pub record GoOn (old mid new : GatewayState) (setup : Setup) (side : Side) (first later : List Move) (t : Told) (between site : Tells) : Type 0 where
  pub goes : Goes old setup side first t mid between → Goes mid setup (moved_by side first) later (told_steps (kept_of (area_of old) setup side) (steps_of first) t) new site
      → Goes old setup side (first ++ later) t new site
  pub breaks : Goes old setup side first t mid between → Breaks mid setup (moved_by side first) later (told_steps (kept_of (area_of old) setup side) (steps_of first) t) new site
      → Breaks old setup side (first ++ later) t new site
  pub broke : Breaks old setup side first t new site → Breaks old setup side (first ++ later) t new site

abbrev pub MovesGoOn : Type 0
MovesGoOn =
    (old mid new : GatewayState) (setup : Setup) (side : Side) (first later : List Move) (t : Told) (between site : Tells) → GoOn old mid new setup side first later t between site
