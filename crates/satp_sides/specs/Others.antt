-- The session that the moves of a call are of.
use Rattle.std.specs.Prelude.{◌≡◌, List, [], ◌∷◌}
use Rattle.satp_base.specs.declared.session.SessionId.{SessionId}
use Rattle.satp_base.specs.Money.{Book}
use Rattle.satp_sides.specs.Calls.{Call, Starts, Works, Aborts, Rescues, Hears, run_of}
use Rattle.satp_sides.specs.Due.{due}
use Rattle.satp_sides.specs.Points.{Move, Appends, Acts, Says, Party, Side, Slot}

-- it stores a record of this session, asks the ledger for an operation of it, or says a text
abbrev pub IsOf : SessionId → Move → Type 0
IsOf s (Appends x) = x.session ≡ s
IsOf s (Acts t op terms) = t ≡ s
IsOf s (Says t) = Unit {0}

abbrev pub AreOf : SessionId → List Move → Type 0
AreOf s [] = Unit {0}
AreOf s (m ∷ ms) = IsOf s m × AreOf s ms

abbrev pub session_of : Call → SessionId
session_of (Starts s terms) = s
session_of (Works s) = s
session_of (Aborts s) = s
session_of (Rescues s) = s
session_of (Hears m t e) = m.session

abbrev pub DueIsOf : Type 0
DueIsOf = (p : Party) (s : SessionId) (l : Slot) (b : Book) → AreOf s (due p s l b).moves

-- an adopted entry's record is of the session of the update that brings it
abbrev pub RunsAreOf : Type 0
RunsAreOf = (p : Party) (side : Side) (call : Call) → AreOf (session_of call) (run_of p side call).moves
