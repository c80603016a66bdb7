-- What a gateway's calls store, and what a stop leaves of their moves.
use Rattle.std.specs.Prelude.{◌≡◌, ◌≢◌, ℕ, List, [], ◌++◌, length, take, Option, Some, Result}
use Rattle.satp_base.specs.Acts.{MayAnswer}
use Rattle.satp_base.specs.Calls.{Told}
use Rattle.satp_base.specs.Format.{records, Stands}
use Rattle.satp_base.specs.LedgerAt.{ledger_at}
use Rattle.satp_base.specs.Roles.{after_of, next_of}
use Rattle.satp_base.specs.Segments.{IsCut, open_events}
use Rattle.satp_base.specs.Trail.{Trail, KeepsModel, extended, seen}
use Rattle.satp_base.specs.declared.area.Area.{Area}
use Rattle.satp_base.specs.declared.area.Event.{Event}
use Rattle.satp_base.specs.declared.ledger.Answer.{Answer}
use Rattle.satp_base.specs.declared.ledger.LedgerOp.{LedgerOp}
use Rattle.satp_base.specs.declared.record.Next.TheVariants.{Append, Act}
use Rattle.satp_base.specs.declared.record.Rec.{Rec}
use Rattle.satp_base.specs.declared.session.SessionId.{SessionId}
use Rattle.satp_log.specs.Journals.{party_of, payloads_of}
use Rattle.satp_records.specs.declared.stored.Setup.{Setup}
use Rattle.satp_sides.specs.Calls.{Call, IsHeard, IsOfOwn, run_of}
use Rattle.satp_sides.specs.Due.{due_text}
use Rattle.satp_sides.specs.Logs.{IsLog, MayCome}
use Rattle.satp_sides.specs.Points.{Move, Party, Side, Slot, Stored, Text, moved_by, slot_in, stored}
use Rattle.satp_stops.specs.Stops.{RestsIn, StopsIn, segments, told_steps}
use Rattle.satp_points.specs.Answers.{Answers}
use Rattle.satp_points.specs.States.{GatewayState, IsAt, Tells, area_of, kept_of, steps_of}
use Rattle.satp_points.specs.declared.fault.Refused.{Refused}

-- ---- records

-- a record that is due may come, and so may the one after any answer that an operation may have
pub record DueComes (p : Party) (s : SessionId) (xs : List Stored) (l : Slot) : Type 0 where
  pub append : (r : Rec) → next_of l.view.role l.view ≡ Append r → MayCome p xs (stored s r (due_text p s l r))
  pub act : (op : LedgerOp) (answer : Answer) → next_of l.view.role l.view ≡ Act op → MayAnswer op answer → MayCome p xs (stored s (after_of op answer) [])

abbrev pub DueMayCome : Type 0
DueMayCome = (p : Party) (s : SessionId) (xs : List Stored) (l : Slot) → slot_in s xs ≡ Some l → DueComes p s xs l

-- the moves of a call keep a log, whatever the ledger is
abbrev pub CallsKeepLogs : Type 0
CallsKeepLogs =
    (p : Party) → p.name ≢ p.peer → (side : Side) (call : Call) → IsLog p side.records → IsHeard p.key call → IsOfOwn p call
    → IsLog p (moved_by side (run_of p side call).moves).records

-- ---- points

-- the site has come to a point of a list of moves, where `rest` is still to come
abbrev pub IsAmong : Trail → Area → Setup → Side → List Move → Type 0
IsAmong t area setup side moves = (done rest : List Move) × (done ++ rest ≡ moves) × RestsIn t (kept_of area setup (moved_by side done)) (steps_of rest)

-- At each event of a list of moves, or of a cut of their events, the site has come to a point of the list: each image of its journal is that point's
-- payloads at rest, or one of the append that is next, and its ledger is that point's.
abbrev pub PointsRest : Type 0
PointsRest =
    (t : Trail) (area : Area) (setup : Setup) (side : Side) (moves : List Move) (events : List Event)
    → IsLog (party_of setup) (moved_by side moves).records
    → RestsIn t (kept_of area setup side) [] → IsCut (segments (kept_of area setup side) (steps_of moves)) events → KeepsModel (extended t events)
    → (n : ℕ) → IsAmong (extended t (take n events)) area setup side moves

-- after all their events it is the last point, at rest
abbrev pub PointsEnd : Type 0
PointsEnd =
    (t : Trail) (area : Area) (setup : Setup) (side : Side) (moves : List Move)
    → IsLog (party_of setup) (moved_by side moves).records
    → RestsIn t (kept_of area setup side) [] → KeepsModel (extended t (segments (kept_of area setup side) (steps_of moves)))
    → RestsIn (extended t (segments (kept_of area setup side) (steps_of moves))) (kept_of area setup (moved_by side moves)) []

-- what a site tells after a list of moves, or after one that failed, is its trail with their events, or with a cut of them
abbrev pub PointsTell : Type 0
PointsTell =
    (t new : Told) (area : Area) (setup : Setup) (side : Side) (moves : List Move)
    → let k = kept_of area setup side in
    ((told_steps k (steps_of moves) t).trail ≡ extended t.trail (segments k (steps_of moves)))
    × (StopsIn k (steps_of moves) t new → (events : List Event) × IsCut (segments k (steps_of moves)) events × (new.trail ≡ extended t.trail events))

-- an opening stays at the point, at each of its events and after a failed one
abbrev pub PointsReopen : Type 0
PointsReopen =
    (t : Trail) (area : Area) (setup : Setup) (side : Side) (moves : List Move) (list : List (List ℕ)) (events : List Event)
    → IsLog (party_of setup) (moved_by side moves).records
    → IsAmong t area setup side moves → Stands (seen t area) list
    → IsCut (open_events area (seen t area) (length (records list))) events → KeepsModel (extended t events) → IsAmong (extended t events) area setup side moves

-- after the whole of it the journal rests at this point, or at the one after the append that was next, whichever was read
abbrev pub PointsReopenEnd : Type 0
PointsReopenEnd =
    (t : Trail) (area : Area) (setup : Setup) (side : Side) (moves : List Move) (list : List (List ℕ))
    → IsLog (party_of setup) (moved_by side moves).records
    → IsAmong t area setup side moves → KeepsModel t → Stands (seen t area) list
    → (done rest : List Move) × (done ++ rest ≡ moves) × (list ≡ payloads_of setup (moved_by side done).records)
    × RestsIn (extended t (open_events area (seen t area) (length (records list)))) (kept_of area setup (moved_by side done)) []

-- ---- calls

-- What a call did at a site: at each of its events, also those of a call of the site that failed, the site has come to a point of these moves.
abbrev pub LeavesPoints : GatewayState → Setup → Side → Told → List Move → Told → Type 0
LeavesPoints g setup side t moves new =
    (events : List Event) × (new.trail ≡ extended t.trail events) × ((n : ℕ) → IsAmong (extended t.trail (take n events)) (area_of g) setup side moves)

-- So it is of each call at a site that the gateway fits and whose ledger is the one that its trail leaves, whatever it answers: a stop at any event of it
-- leaves what some of its moves do, one after the other from the first.
abbrev pub CallsLeavePoints : Type 0
CallsLeavePoints =
    (call : Call) (old new : GatewayState) (before site : Tells) (result : Result (Option Text) Refused) (setup : Setup) (side : Side) (t told : Told)
    → IsAt old before setup side t → side.book.entries ≡ ledger_at t.trail.entries t.trail.events → IsHeard setup.key call → IsOfOwn (party_of setup) call
    → Answers call old new before site result → site.told ≡ Some told → KeepsModel told.trail
    → LeavesPoints old setup side t (run_of (party_of setup) side call).moves told
