-- What a call leaves alone, what it says, and where its answer stands.
use Rattle.std.specs.Prelude.{◌≡◌, ◌≢◌, List, [], ◌∷◌, ◌++◌, Option, Some, None, Ok, Err}
use Rattle.std.specs.FinMap.{get}
use Rattle.satp_base.specs.Founding.{Founding}
use Rattle.satp_base.specs.declared.session.SessionId.{SessionId}
use Rattle.satp_sides.specs.Calls.{Call, IsHeard, IsOfOwn, Refusal, Run, run_of, says}
use Rattle.satp_sides.specs.Logs.{IsLog}
use Rattle.satp_sides.specs.Others.{session_of}
use Rattle.satp_sides.specs.Points.{Move, Appends, Acts, Says, Party, Side, Text, moved_by, records_of}
use Rattle.satp_sides.specs.Said.{WasSaid}
use Rattle.satp_world.specs.Histories.{MayCall, after_moves, call_moves}
use Rattle.satp_world.specs.Standing.{WorldRun}
use Rattle.satp_world.specs.Worlds.{Gateway, Reached, Setting, World, party_at, side_at}

-- of a session the same records stand, and the same entry in the book
pub record Stays (s : SessionId) (old new : Side) : Type 0 where
  pub records : records_of s new.records ≡ records_of s old.records
  pub entry : get new.book.entries s ≡ get old.book.entries s

-- Every session but the call's stays as it is, also where a stop leaves only some of the call's moves.
abbrev pub OthersStay : Type 0
OthersStay =
    (p : Party) (side : Side) (call : Call) (first rest : List Move) → (run_of p side call).moves ≡ first ++ rest
    → (s : SessionId) → s ≢ session_of call → Stays s side (moved_by side first)

-- none of the moves says a text
abbrev pub AreSilent : List Move → Type 0
AreSilent [] = Unit {0}
AreSilent (Appends x ∷ ms) = AreSilent ms
AreSilent (Acts s op terms ∷ ms) = AreSilent ms
AreSilent (Says t ∷ ms) = ⊥

-- A run says its answer alone, and last.
pub data SaysItsAnswer (run : Run) : Type 0 where
  Answered : (before : List Move) (reply : Option Text) → AreSilent before → run.moves ≡ before ++ says reply → run.answer ≡ Some (Ok reply) → SaysItsAnswer run
  Refused : (refusal : Refusal) → run.moves ≡ [] → run.answer ≡ Some (Err refusal) → SaysItsAnswer run
  Unanswered : AreSilent run.moves → run.answer ≡ None → SaysItsAnswer run

abbrev pub RunsSayTheirAnswers : Type 0
RunsSayTheirAnswers = (p : Party) (side : Side) (call : Call) → SaysItsAnswer (run_of p side call)

-- Over a log, whoever the peer is and whatever the ledger answers, a text that a call answers was said, by the records after it.
abbrev pub AnswersWereSaid : Type 0
AnswersWereSaid =
    (p : Party) → p.name ≢ p.peer → (side : Side) → IsLog p side.records → (call : Call) → IsHeard p.key call → IsOfOwn p call
    → (t : Text) → (run_of p side call).answer ≡ Some (Ok (Some t)) → WasSaid p (moved_by side (run_of p side call).moves).records t

-- In a reached world a text that a call answers was said, by the gateway's records after it and ever after, whatever moves come.
abbrev pub AnswersStand : Type 0
AnswersStand =
    (st : Setting) (a b : Founding) (w : World) → Reached st a b w → (g : Gateway) (call : Call) → MayCall st w g call
    → (t : Text) → (run_of (party_at st g) (side_at w g) call).answer ≡ Some (Ok (Some t))
    → (v : World) → WorldRun st (after_moves w g (call_moves st w g call)) v → WasSaid (party_at st g) (side_at v g).records t
