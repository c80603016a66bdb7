-- What the tests of a call leave: over a log, and of what was read, a call that no test refuses is answered, or ends within an operation.
use Rattle.std.specs.Prelude.{◌≡◌, ◌≤◌, false, List, [], Some, None}
use Rattle.satp_base.specs.Money.{Book}
use Rattle.satp_base.specs.declared.session.SessionId.{SessionId}
use Rattle.satp_sides.specs.Calls.{Call, IsHeard, is_named, refusal_of, run_of}
use Rattle.satp_sides.specs.Due.{due}
use Rattle.satp_sides.specs.DueLaws.{acts_in}
use Rattle.satp_sides.specs.Logs.{IsLog}
use Rattle.satp_sides.specs.Points.{Party, Side, Slot, Stored, moved_by, records_of, slot_in}
use Rattle.satp_side_examples.specs.Samples.{side}

-- a session that isn't named has no record
abbrev pub LogsNameSessions : Type 0
LogsNameSessions = (p : Party) (xs : List Stored) → IsLog p xs → (s : SessionId) → is_named s xs ≡ false → records_of s xs ≡ []

-- where there is no answer the ledger was asked
abbrev pub RunsAreAnswered : Type 0
RunsAreAnswered =
    (p : Party) (side : Side) (call : Call) → IsLog p side.records → IsHeard p.key call → refusal_of p side.records call ≡ None
    → (run_of p side call).answer ≡ None → 1 ≤ acts_in (run_of p side call).moves

-- due work keeps a log, whatever the ledger answers, and leaves the session as the records then say
abbrev pub DueIsStored : Type 0
DueIsStored =
    (p : Party) (s : SessionId) (l : Slot) (xs : List Stored) (b : Book) → IsLog p xs → slot_in s xs ≡ Some l
    → IsLog p (moved_by (side xs b) (due p s l b).moves).records × (slot_in s (moved_by (side xs b) (due p s l b).moves).records ≡ Some (due p s l b).slot)
